mod KeptLaws
mod KeptRunLaws
mod NewRunLaws
mod RefusalLaws
mod RunLaws
