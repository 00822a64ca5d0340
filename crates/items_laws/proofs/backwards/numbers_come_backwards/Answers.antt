use Rattle.std.specs.Prelude.{true, false}
use Rattle.items_laws.proofs.ReadBack.{all_before, byte_texts_before, bytes_before, integers_before}
use Rattle.items_laws.proofs.backwards.numbers_come_backwards.Goals as goal

-- src/backwards.rt
pub returns-clause-integers : goal.returns-clause-integers
returns-clause-integers c = integers_before

pub returns-clause-integers_end : goal.returns-clause-integers_end
returns-clause-integers_end c = all_before false

pub returns-clause-bytes : goal.returns-clause-bytes
returns-clause-bytes c = bytes_before

pub returns-clause-texts : goal.returns-clause-texts
returns-clause-texts c = byte_texts_before

pub returns-clause-bytes_end : goal.returns-clause-bytes_end
returns-clause-bytes_end c = all_before true
