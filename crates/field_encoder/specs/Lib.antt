pub use Rattle.bodies.specs.Kinds
pub use Rattle.branches.specs.Drafted
pub use Rattle.field_shapes.specs.Shapes
pub mod Makes
