-- What those above name of vm_parts.
pub use Rattle.vm_parts.specs.Answering as answering
pub use Rattle.vm_parts.specs.Below as below
pub use Rattle.vm_parts.specs.Beside as beside
pub use Rattle.vm_parts.specs.Calling as calling
pub use Rattle.vm_parts.specs.Code as code
pub use Rattle.vm_parts.specs.Entering as entering
pub use Rattle.vm_parts.specs.Finding as finding
pub use Rattle.vm_parts.specs.Known as known
pub use Rattle.vm_parts.specs.Leaving as leaving
pub use Rattle.vm_parts.specs.Operators as operators
pub use Rattle.vm_parts.specs.declared.entering.Entered.{Entered}
pub use Rattle.vm_parts.specs.declared.flow.Flow.{Flow}
pub use Rattle.vm_parts.specs.declared.flow.Flow.TheVariants as flow
pub use Rattle.vm_parts.specs.declared.flow.Handed.TheVariants as handed
pub use Rattle.vm_parts.specs.declared.flow.Step.{Step}
pub use Rattle.vm_parts.specs.declared.flow.Step.TheVariants as step
pub use Rattle.vm_parts.specs.declared.known.KnownCalls.{KnownCalls}
pub use Rattle.vm_parts.specs.declared.known.MethodBody.{MethodBody}
pub use Rattle.vm_parts.specs.declared.known.Usual.{Usual}
pub use Rattle.vm_parts.specs.declared.known.Usual.TheVariants as usual
pub use Rattle.vm_parts.specs.declared.loaded.Decoded.{Decoded}
pub use Rattle.vm_parts.specs.declared.loaded.Loaded.{Loaded}
