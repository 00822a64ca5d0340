use Rattle.std.proofs.Common.{◌≡◌, ◌-◌, ◌/◌, ◌%◌, false, length, ap, sym, ◌∙◌, arith}
use Rattle.std.specs.Prelude.{nat_eq, Err}
use Rattle.std.proofs.lemmas.Bool.Decides.{nat_tests}
use Rattle.std.proofs.lemmas.List.{length-map}
use Rattle.row_table.specs.Names.{names}
use Rattle.run_rows.specs.Named.{hidden}
use Rattle.run_rows.proofs.Table.{line_there, line_behind}
use Rattle.run_rows.proofs.numbering.first.Goals as goal

pub returns-in-Some : goal.returns-in-Some
returns-in-Some c =
    let other : nat_eq (c.args.number / 256) hidden ≡ false = grind (arith, nat_tests, c.if-segment-eq-HIDDEN.false) in
    sym (line_there c.args.number c.in-Some.line other (sym c.line_at.ensures ∙ c.in-Some.is))

pub returns-in-None : goal.returns-in-None
returns-in-None c =
    let other : nat_eq (c.args.number / 256) hidden ≡ false = grind (arith, nat_tests, c.if-segment-eq-HIDDEN.false) in
    let all : length c.names.result.now ≡ length (names (c.args.number / 256)) =
    sym (length-map c.names.result.now _) ∙ ap length c.names.ensures in
    let left : c.saturating_sub.result ≡ c.args.number % 256 - length (names (c.args.number / 256)) =
    grind (arith, all, c.saturating_sub.ensures, c.from-place.ensures) in
    ap Err left ∙ sym (line_behind c.args.number other (sym c.line_at.ensures ∙ c.in-None.is))
