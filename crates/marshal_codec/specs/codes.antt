pub mod KnownKinds
