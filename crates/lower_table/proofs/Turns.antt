-- Lists that grow by one more, with what is still to come.
use Rattle.std.proofs.lemmas.List.{append_assoc, append-nil, map-append, drop_more, drop_all}

pub ruleset list_turns = (append_assoc, append-nil, map-append, drop_more, drop_all)
