use Rattle.items_laws.proofs.Ranges.{byte_items, byte_texts, byte_end}
use Rattle.items_laws.proofs.byte_ranges.bytes_are_items.Goals as goal

-- src/byte_ranges.rt
pub returns-clause-items : goal.returns-clause-items
returns-clause-items c = byte_items

pub returns-clause-texts : goal.returns-clause-texts
returns-clause-texts c = byte_texts

pub returns-clause-end : goal.returns-clause-end
returns-clause-end c = byte_end
