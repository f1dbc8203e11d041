mod HoldsLaws
mod LeadsRise
mod StatementFacts
mod StepLaws
