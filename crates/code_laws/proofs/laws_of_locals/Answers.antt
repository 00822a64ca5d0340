use Rattle.code_laws.proofs.Binding.{local_reads, local_writes, hidden_reads, hidden_writes, own_reads}
use Rattle.code_laws.proofs.laws_of_locals.Goals as goal

pub returns : goal.returns
returns c = record {
  reads = local_reads;
  writes = local_writes;
  hidden = hidden_reads;
  hidden_written = hidden_writes;
  owned = own_reads;
}
