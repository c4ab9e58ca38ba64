pub mod FieldShapes
