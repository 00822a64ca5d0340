-- Widths in order.
use Rattle.std.proofs.lemmas.List.{append_assoc, append-nil}
use Rattle.ir_walk.proofs.Items.{item-widths}

pub ruleset append_laws = (append_assoc, append-nil)

pub ruleset item_laws = (append_assoc, append-nil, item-widths)
