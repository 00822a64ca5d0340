-- A body without an instruction isn't verified, and is stuck at its first turn.
use Rattle.std.proofs.Common.{◌≡◌, [], true, refl}
use Rattle.std.specs.Prelude.{is_some}
use Rattle.rite_code.specs.Spelling.{decode_wide_at, front}
use Rattle.code_outline.specs.Layout.{standings, layout, end_of}
use Rattle.code_verifier.specs.Checks.{first, body_bad, bodies_bad, first_bad}
use Rattle.def_machine.specs.State.{Stuck, start}
use Rattle.def_machine.specs.Turn.{fetch, turns}
use Rattle.run_laws.specs.Example.{empty}

pub empty_fails : is_some (first_bad empty) ≡ true
unfolding first_bad bodies_bad body_bad first layout standings end_of
empty_fails = refl

pub empty_is_stuck : turns 1 empty (start empty []) ≡ Stuck []
unfolding start fetch decode_wide_at front
empty_is_stuck = refl
