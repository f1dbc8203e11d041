-- Definitions of what is kept inside. Public contracts name none of them: they see what is kept as the content of the tables.
pub mod KeptTables
pub mod KeptRuns
