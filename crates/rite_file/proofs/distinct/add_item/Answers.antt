use Rattle.std.proofs.Common.{◌≡◌, true, ◌∙◌, sym, rules, w64, FitsSigned}
use Rattle.std.proofs.lemmas.Int.{to_z-of_z}
use Rattle.rite_code.specs.declared.code.PoolItem.TheVariants.{Int, Text}
use Rattle.rite_file.specs.Record.{is_new, item_eq}
use Rattle.rite_file.proofs.SeenItems.{fresh_integer, fresh_text, grown_integer, grown_text}
use Rattle.rite_file.proofs.distinct.add_item.Goals as goal

pub returns-in_ok-new-in-Int-clause-fresh : goal.returns-in_ok-new-in-Int-clause-fresh
returns-in_ok-new-in-Int-clause-fresh c = λ items seen.
    let fits : FitsSigned w64 c.in-Int.number = search rules in
    rw c.in-Int.is
    (fresh_integer items c.args.integers.now c.args.texts.now _ c.in-Int.number c.in_ok-new-in-Int.new
    c.in_ok-new-in-Int.ensures.fresh (to_z-of_z w64 _ fits) seen)

pub returns-in_ok-new-in-Int-clause-grown : goal.returns-in_ok-new-in-Int-clause-grown
returns-in_ok-new-in-Int-clause-grown c = λ items seen new.
    let fits : FitsSigned w64 c.in-Int.number = search rules in
    let fresh : is_new item_eq items (Int c.in-Int.number) ≡ true =
    sym (fresh_integer items c.args.integers.now c.args.texts.now _ c.in-Int.number c.in_ok-new-in-Int.new
    c.in_ok-new-in-Int.ensures.fresh (to_z-of_z w64 _ fits) seen) ∙ new in
    rw (c.in-Int.is, c.in_ok-new-in-Int.ensures.set)
    (grown_integer items c.args.integers.now c.args.texts.now _ c.in-Int.number (to_z-of_z w64 _ fits) fresh seen)

pub returns-in_ok-new-in-Text-clause-fresh : goal.returns-in_ok-new-in-Text-clause-fresh
returns-in_ok-new-in-Text-clause-fresh c = λ items seen.
    let before = rw c.in-Text.is at c.requires.stands in
    let spelled : c.bytes_before.result.now ≡ c.in-Text.text = rw c.len.ensures at c.bytes_before.ensures ∙ before.is in
    rw c.in-Text.is
    (fresh_text items c.args.integers.now c.args.texts.now c.bytes_before.result.now c.in-Text.text
    c.in_ok-new-in-Text.new c.in_ok-new-in-Text.ensures.fresh spelled seen)

pub returns-in_ok-new-in-Text-clause-grown : goal.returns-in_ok-new-in-Text-clause-grown
returns-in_ok-new-in-Text-clause-grown c = λ items seen new.
    let before = rw c.in-Text.is at c.requires.stands in
    let spelled : c.bytes_before.result.now ≡ c.in-Text.text = rw c.len.ensures at c.bytes_before.ensures ∙ before.is in
    let fresh : is_new item_eq items (Text c.in-Text.text) ≡ true =
    sym (fresh_text items c.args.integers.now c.args.texts.now c.bytes_before.result.now c.in-Text.text
    c.in_ok-new-in-Text.new c.in_ok-new-in-Text.ensures.fresh spelled seen) ∙ new in
    rw (c.in-Text.is, c.in_ok-new-in-Text.ensures.set)
    (grown_text items c.args.integers.now c.args.texts.now c.bytes_before.result.now c.in-Text.text spelled fresh
    seen)
