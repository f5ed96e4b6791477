pub mod literal_grammar
pub mod parser
pub mod table_agreement
