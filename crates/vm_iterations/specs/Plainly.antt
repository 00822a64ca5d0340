-- What those above name of plain instructions.
pub use Rattle.vm_plain.specs.Acting as acting
pub use Rattle.vm_plain.specs.Plain as plain
pub use Rattle.vm_plain.specs.declared.plain.Next.{Next}
pub use Rattle.vm_plain.specs.declared.plain.Next.TheVariants as next
pub use Rattle.vm_plain.specs.declared.plain.Plain.{Plain}
pub use Rattle.vm_plain.specs.declared.plain.Turn.{Turn}
