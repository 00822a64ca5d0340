-- What is given straight on is what the call of the row gives.
use Rattle.std.proofs.Common.{◌≡◌, ℕ, Bool, true, false, List, refl, ap, sym, ◌∙◌, subst, if◌then◌else◌}
use Rattle.std.specs.Prelude.{Option, Some, None, option_map}
use Rattle.rb_value.specs.declared.value.Value.{Value}
use Rattle.rb_value.specs.declared.value.ObjId.{ObjId}
use Rattle.rb_value.specs.declared.outcome.Outcome.{Outcome}
use Rattle.rb_value.specs.declared.outcome.Outcome.TheVariants as outcome
use Rattle.def_core.specs.Store.{Store, Done}
use Rattle.def_core.specs.Changes.{gives}
use Rattle.rb_store.specs.Held.{Held}
use Rattle.row_table.specs.declared.line.CoreRow.{CoreRow}
use Rattle.row_table.specs.declared.line.Line.{Line}
use Rattle.row_table.specs.RowTable.{line_at}
use Rattle.def_rows.specs.Answers.{called, finish, answer_of}
use Rattle.def_rows.specs.Rows.{prim, by_line, gives as row_gives}
use Rattle.straight_rows.specs.Goes.{goes}
use Rattle.straight_rows.specs.Straight.{told_by, told, given}
use Rattle.straight_rows.specs.Called.{method_at, GivesAsCalled}
use Rattle.straight_rows.proofs.Fitting.{fits, line_fits, passes}

-- the call of a line with that row is finished with what the row gives
by_number : (r : CoreRow) (st : Store) (recv : Value) (args : List Value) (block : Option ObjId) (number : ℕ)
    → goes r st.objects recv args ≡ true → (l : Option Line) → line_at number ≡ l → option_map (λ line. line.row) l ≡ Some r
    → by_line l recv args block st ≡ finish st recv (row_gives r st recv args)
unfolding called
by_number r st recv args block number g None at h = cc
by_number r st recv args block number g (Some line) at h =
    let same : line.row ≡ r = cc in
    ap (λ o. finish st recv (answer_of o (row_gives line.row st recv args)))
    (passes line.signature st.objects recv block line.row args
    (subst (λ (q : CoreRow). goes q st.objects recv args ≡ true) (sym same) g) (line_fits number line at))
    ∙ ap (λ (q : CoreRow). finish st recv (row_gives q st recv args)) same

pub finished : (r : CoreRow) (st : Store) (recv : Value) (args : List Value) (block : Option ObjId) (number : ℕ)
    → goes r st.objects recv args ≡ true → method_at number ≡ Some r
    → prim number recv args block st ≡ finish st recv (row_gives r st recv args)
unfolding prim
finished r st recv args block number g h = by_number r st recv args block number g (line_at number) refl h

told_value : (before after : Held) (o : Outcome) (st : Store) (v : Value) → told_by before o st ≡ (Some v, after)
    → o ≡ outcome.Value v
told_value before after (outcome.Value w) st v h = cc (ap (λ (p : Option Value × Held). p.0) h)
told_value before after (outcome.Raise f) st v h = cc (ap (λ (p : Option Value × Held). p.0) h)

told_store : (before after : Held) (o : Outcome) (st : Store) (v : Value) → told_by before o st ≡ (Some v, after)
    → st ≡ after.store
told_store before after (outcome.Value w) st v h = ap (λ (p : Option Value × Held). p.1.store) h
told_store before after (outcome.Raise f) st v h = cc (ap (λ (p : Option Value × Held). p.0) h)

told_is : (before after : Held) (done : Done) (v : Value) → told before done ≡ (Some v, after) → done ≡ gives v after.store
told_is before after done v h =
    ap (λ (o : Outcome). record { outcome = o; store = done.store }) (told_value before after done.outcome done.store v h)
    ∙ ap (λ (st : Store). record { outcome = outcome.Value v; store = st })
    (told_store before after done.outcome done.store v h)

by_goes : (r : CoreRow) (before after : Held) (recv : Value) (args : List Value) (v : Value) (b : Bool)
    → goes r before.store.objects recv args ≡ b
    → (if b then told before (finish before.store recv (row_gives r before.store recv args)) else (None, before)) ≡ (Some v, after)
    → (number : ℕ) → method_at number ≡ Some r → (block : Option ObjId)
    → prim number recv args block before.store ≡ gives v after.store
by_goes r before after recv args v true g h number at block =
    finished r before.store recv args block number g at ∙ told_is before after _ v h
by_goes r before after recv args v false g h number at block =
    cc (ap (λ (p : Option Value × Held). p.0) h)

pub given_is_called : (r : CoreRow) (before after : Held) (recv : Value) (args : List Value) (found : Option Value)
    → given r before recv args ≡ (found, after) → GivesAsCalled r before after recv args found
given_is_called r before after recv args None h = tt
given_is_called r before after recv args (Some v) h =
    by_goes r before after recv args v (goes r before.store.objects recv args) refl h
