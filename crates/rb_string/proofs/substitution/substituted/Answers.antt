use Rattle.std.proofs.Common.{◌≡◌, false, List, ℕ, Result, Some, ◌++◌, length, take, drop, sym, ap, subst, ◌∙◌}
use Rattle.std.specs.Prelude.{IfOk}
use Rattle.rb_string.specs.declared.failure.StringFailure.{StringFailure}
use Rattle.rb_string.specs.Limit.{fits, limited}
use Rattle.rb_string.specs.Searching.{first_place}
use Rattle.rb_string.specs.Substitution.{expanded, with_one}
use Rattle.rb_string.proofs.Limits.{middle_long}
use Rattle.rb_string.proofs.substitution.substituted.Goals as goal

pub returns-then-not-branch : goal.returns-then-not-branch
returns-then-not-branch c =
    let text = c.args.text.now in
    let n = length c.args.pattern.now in
    let at = c.in-Some.at in
    let new : ℕ → List ℕ = λ k. expanded text k n c.args.new.now in
    let place : with_one text n new (Some at) ≡ with_one text n new (first_place text c.args.pattern.now 0) =
    ap (with_one text n new) c.in-Some.ensures.value in
    let wide : fits (length (new at)) ≡ false =
    ap (λ (l : List ℕ). fits (length (l ++ new at))) (sym c.new-put.ensures.items)
    ∙ c.in_ok-append_expanded.ensures.long c.if-not-branch.true in
    sym (ap limited (sym place) ∙ middle_long (take at text) (new at) (drop n (drop at text)) wide)

pub returns : goal.returns
returns c =
    let text = c.args.text.now in
    let n = length c.args.pattern.now in
    let at = c.in-Some.at in
    let new : ℕ → List ℕ = λ k. expanded text k n c.args.new.now in
    let place : with_one text n new (Some at) ≡ with_one text n new (first_place text c.args.pattern.now 0) =
    ap (with_one text n new) c.in-Some.ensures.value in
    let put : c.deref.result.now ≡ new at =
    c.deref.ensures.value ∙ c.in_ok-append_expanded.ensures.items c.if-not-branch.false
    ∙ ap (λ (l : List ℕ). l ++ new at) c.new-put.ensures.items in
    let behind : c.rest-behind.result.now ≡ drop n (drop at text) = c.rest-behind.ensures ∙ ap (drop n) c.rest.ensures in
    let whole : c.front.result.now ++ c.deref.result.now ++ c.rest-behind.result.now
    ≡ take at text ++ new at ++ drop n (drop at text) =
    ap (λ l. l ++ c.deref.result.now ++ c.rest-behind.result.now) c.front.ensures
    ∙ ap (λ l. take at text ++ l ++ c.rest-behind.result.now) put
    ∙ ap (λ l. take at text ++ new at ++ l) behind in
    subst (λ (z : Result (List ℕ) StringFailure). IfOk c.joined-2.result (λ r. r ≡ z)) (ap limited (whole ∙ place))
    c.joined-2.ensures
