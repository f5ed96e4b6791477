pub mod ValueProgress
