use Rattle.std.proofs.Common.{◌≡◌, ℕ, List, ◌++◌, true, false, drop, length, Ok, refl, sym, ap, ◌∙◌}
use Rattle.memchr.specs.Find.{matches}
use Rattle.rb_string.specs.Limit.{fits}
use Rattle.rb_string.specs.Substitution.{expanded, with_each}
use Rattle.rb_string.proofs.Apart.{apart_next, apart_matches}
use Rattle.rb_string.proofs.Limits.{limited_fits}
use Rattle.rb_string.proofs.Places.{with_each_step, with_each_end, each_long, last_long}
use Rattle.rb_string.proofs.substitution.substituted_everywhere.Goals as goal

pub places-init : goal.places-init
places-init c = record {
  apart = rw c.find_iter-places.ensures.value (apart_matches c.args.text.now c.args.pattern.now);
  same = rw (c.new-made.ensures.items, c.find_iter-places.ensures.value) refl;
}

pub returns-then-not-branch : goal.returns-then-not-branch
returns-then-not-branch c =
    let n = length c.args.pattern.now in
    let new : ℕ → List ℕ = λ at. expanded c.args.text.now at n c.args.new.now in
    let whole = with_each c.args.text.now n new 0 (matches c.args.text.now c.args.pattern.now 0) in
    sym (each_long c.args.text.now new c.places.made.items whole n c.places.from c.in-Some.at c.places.places
    c.next.new.self c.in-Some.ensures.steps c.places.invariant.same
    (c.in_ok-append_match.ensures.long c.if-not-branch.true))

pub places-preserved : goal.places-preserved
places-preserved c =
    let n = length c.args.pattern.now in
    let new : ℕ → List ℕ = λ at. expanded c.args.text.now at n c.args.new.now in
    let whole = with_each c.args.text.now n new 0 (matches c.args.text.now c.args.pattern.now 0) in
    let next = apart_next (length c.args.text.now) n c.places.from c.in-Some.at c.places.places c.next.new.self
    c.in-Some.ensures.steps c.places.invariant.apart in
    record {
      apart = next.2;
      same = rw (c.in_ok-append_match.ensures.items c.if-not-branch.false)
          (with_each_step c.args.text.now new c.places.made.items whole n c.places.from c.in-Some.at c.places.places
          c.next.new.self c.in-Some.ensures.steps c.places.invariant.same);
    }

pub returns-then-not-branch-2 : goal.returns-then-not-branch-2
returns-then-not-branch-2 c =
    let n = length c.args.pattern.now in
    let new : ℕ → List ℕ = λ at. expanded c.args.text.now at n c.args.new.now in
    let whole = with_each c.args.text.now n new 0 (matches c.args.text.now c.args.pattern.now 0) in
    let wide : fits (length (c.places.made.items ++ drop c.places.from c.args.text.now)) ≡ false =
    ap (λ l. fits (length (c.places.made.items ++ l))) (sym c.rest.ensures) ∙ sym c.in_ok-append.ensures.fits
    ∙ c.if-not-branch-2.true in
    sym (last_long c.args.text.now new c.places.made.items whole n c.places.from c.places.places
    c.in_default.ensures.steps.0 c.places.invariant.same wide)

pub returns : goal.returns
returns c =
    let n = length c.args.pattern.now in
    let new : ℕ → List ℕ = λ at. expanded c.args.text.now at n c.args.new.now in
    let whole = with_each c.args.text.now n new 0 (matches c.args.text.now c.args.pattern.now 0) in
    let told = rw c.rest.ensures at c.in_ok-append.ensures.items in
    let items : c.append.new.text.items ≡ c.places.made.items ++ drop c.places.from c.args.text.now =
    rw c.if-not-branch-2.false at told in
    let all : c.places.made.items ++ drop c.places.from c.args.text.now ≡ whole =
    with_each_end c.args.text.now new c.places.made.items whole n c.places.from c.places.places
    c.in_default.ensures.steps.0 c.places.invariant.same in
    let room : fits (length whole) ≡ true =
    ap (λ l. fits (length l)) (sym all) ∙ ap (λ l. fits (length (c.places.made.items ++ l))) (sym c.rest.ensures)
    ∙ sym c.in_ok-append.ensures.fits ∙ c.if-not-branch-2.false in
    ap Ok (c.from_vec.ensures ∙ items ∙ all) ∙ sym (limited_fits whole room)
