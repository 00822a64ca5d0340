-- Names in order.
use Rattle.std.proofs.lemmas.List.{append_assoc, append-nil}
use Rattle.parser_tree.proofs.ViewsBy.{views}

pub ruleset name_laws = (append_assoc, append-nil)

pub ruleset pattern_laws = (views, append-nil)
