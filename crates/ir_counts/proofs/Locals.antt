-- How many locals a list has.
use Rattle.std.proofs.lemmas.List.{length-map}

pub ruleset local_laws = length-map
