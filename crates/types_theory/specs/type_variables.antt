pub mod TypeVariables
