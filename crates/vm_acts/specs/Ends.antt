-- What those above name of ends.
pub use Rattle.vm_parts.specs.declared.flow.End.{End}
pub use Rattle.vm_parts.specs.declared.flow.End.TheVariants as end
