-- What is read of two Strings is what the methods give.
use Rattle.std.proofs.Common.{◌≡◌, ◌≢◌, Bool, true, false, ◌||◌, ℕ, List, [], ◌∷◌, refl, ap, sym, ◌∙◌}
use Rattle.std.specs.Prelude.{Option, Some, None}
use Rattle.rb_value.specs.declared.value.Value.{Value}
use Rattle.rb_value.specs.declared.value.ObjId.{ObjId}
use Rattle.rb_value.specs.declared.kind.Sort.TheVariants as sort
use Rattle.rb_value.specs.Object.{Object}
use Rattle.rb_store.specs.Held.{Held}
use Rattle.def_core.specs.Parts.{text_at}
use Rattle.row_table.specs.declared.line.CoreRow.TheVariants as row
use Rattle.row_table.specs.declared.string.StringMethod.{StringMethod}
use Rattle.row_table.specs.declared.string.StringMethod.TheVariants as method
use Rattle.def_rows.specs.Operands.{place_of}
use Rattle.def_rows.specs.StringRows.{gives}
use Rattle.straight_rows.specs.Straight.{given}
use Rattle.straight_rows.specs.Compared.{compared, compared_at, read_texts}

or_none : (b : Bool) → (b || false) ≡ b
or_none true = refl
or_none false = refl

-- nothing of a method that compares nothing
abbrev with_held : Held → Option Value → Option Value × Held
with_held held found = (found, held)

nothing : (objects : List Object) (m : StringMethod) (p q : Option ObjId) → ((s t : List ℕ) → compared m s t ≡ None)
    → None ≡ compared_at objects m p q
nothing objects m (Some id) (Some other) h = sym (h (text_at objects id) (text_at objects other))
nothing objects m (Some id) None h = refl
nothing objects m None q h = refl

none : (held : Held) (m : StringMethod) (p q : Option ObjId) → ((s t : List ℕ) → compared m s t ≡ None)
    → with_held held None ≡ with_held held (compared_at held.store.objects m p q)
none held m p q h = ap (λ (o : Option Value). with_held held o) (nothing held.store.objects m p q h)

-- by the places of the two
by_places : (m : StringMethod) → m ≢ method.Plus → m ≢ method.Element → m ≢ method.Append → (held : Held) (recv other : Value) (p q : Option ObjId)
    → place_of held.store.objects sort.String recv ≡ p → place_of held.store.objects sort.String other ≡ q
    → given (row.String m) held recv (other ∷ []) ≡ (compared_at held.store.objects m p q, held)
unfolding gives
by_places method.Equal a b c held recv other (Some id) (Some id2) e f = rw (e, f) refl
by_places method.Equal a b c held recv other (Some id) None e f = rw f refl
by_places method.Equal a b c held recv other None (Some id) e f = rw (e, f) refl
by_places method.Equal a b c held recv other None None e f = rw f refl
by_places method.Order a b c held recv other (Some id) (Some id2) e f = rw (e, f) refl
by_places method.Order a b c held recv other (Some id) None e f = rw f refl
by_places method.Order a b c held recv other None (Some id) e f = rw (e, f) refl
by_places method.Order a b c held recv other None None e f = rw f refl
by_places method.Less a b c held recv other (Some id) (Some id2) e f = rw (e, f) refl
by_places method.Less a b c held recv other (Some id) None e f = rw f refl
by_places method.Less a b c held recv other None (Some id) e f = rw (e, f) refl
by_places method.Less a b c held recv other None None e f = rw f refl
by_places method.AtMost a b c held recv other (Some id) (Some id2) e f = rw (e, f) refl
by_places method.AtMost a b c held recv other (Some id) None e f = rw f refl
by_places method.AtMost a b c held recv other None (Some id) e f = rw (e, f) refl
by_places method.AtMost a b c held recv other None None e f = rw f refl
by_places method.Greater a b c held recv other (Some id) (Some id2) e f = rw (e, f) refl
by_places method.Greater a b c held recv other (Some id) None e f = rw f refl
by_places method.Greater a b c held recv other None (Some id) e f = rw (e, f) refl
by_places method.Greater a b c held recv other None None e f = rw f refl
by_places method.AtLeast a b c held recv other (Some id) (Some id2) e f = rw (e, f) refl
by_places method.AtLeast a b c held recv other (Some id) None e f = rw f refl
by_places method.AtLeast a b c held recv other None (Some id) e f = rw (e, f) refl
by_places method.AtLeast a b c held recv other None None e f = rw f refl
by_places method.Includes a b c held recv other (Some id) (Some id2) e f = rw (e, f) refl
by_places method.Includes a b c held recv other (Some id) None e f = rw f refl
by_places method.Includes a b c held recv other None (Some id) e f = rw (e, f) refl
by_places method.Includes a b c held recv other None None e f = rw f refl
by_places method.StartsWith a b c held recv other (Some id) (Some id2) e f = rw (e, f, or_none _) refl
by_places method.StartsWith a b c held recv other (Some id) None e f = rw f refl
by_places method.StartsWith a b c held recv other None (Some id) e f = rw (e, f) refl
by_places method.StartsWith a b c held recv other None None e f = rw f refl
by_places method.EndsWith a b c held recv other (Some id) (Some id2) e f = rw (e, f, or_none _) refl
by_places method.EndsWith a b c held recv other (Some id) None e f = rw f refl
by_places method.EndsWith a b c held recv other None (Some id) e f = rw (e, f) refl
by_places method.EndsWith a b c held recv other None None e f = rw f refl
by_places method.Plus a b c held recv other p q e f = absurd (a refl)
by_places method.Times a b c held recv other p q e f = none held method.Times p q (λ s t. refl)
by_places method.Element a b c held recv other p q e f = absurd (b refl)
by_places method.SetElement a b c held recv other p q e f = none held method.SetElement p q (λ s t. refl)
by_places method.Length a b c held recv other p q e f = none held method.Length p q (λ s t. refl)
by_places method.Size a b c held recv other p q e f = none held method.Size p q (λ s t. refl)
by_places method.ByteSize a b c held recv other p q e f = none held method.ByteSize p q (λ s t. refl)
by_places method.Bytes a b c held recv other p q e f = none held method.Bytes p q (λ s t. refl)
by_places method.Characters a b c held recv other p q e f = none held method.Characters p q (λ s t. refl)
by_places method.Lines a b c held recv other p q e f = none held method.Lines p q (λ s t. refl)
by_places method.Upcase a b c held recv other p q e f = none held method.Upcase p q (λ s t. refl)
by_places method.Downcase a b c held recv other p q e f = none held method.Downcase p q (λ s t. refl)
by_places method.Capitalize a b c held recv other p q e f = none held method.Capitalize p q (λ s t. refl)
by_places method.Swapcase a b c held recv other p q e f = none held method.Swapcase p q (λ s t. refl)
by_places method.Reverse a b c held recv other p q e f = none held method.Reverse p q (λ s t. refl)
by_places method.Strip a b c held recv other p q e f = none held method.Strip p q (λ s t. refl)
by_places method.LeftStrip a b c held recv other p q e f = none held method.LeftStrip p q (λ s t. refl)
by_places method.RightStrip a b c held recv other p q e f = none held method.RightStrip p q (λ s t. refl)
by_places method.Chomp a b c held recv other p q e f = none held method.Chomp p q (λ s t. refl)
by_places method.Chop a b c held recv other p q e f = none held method.Chop p q (λ s t. refl)
by_places method.Append a b c held recv other p q e f = absurd (c refl)
by_places method.Concat a b c held recv other p q e f = none held method.Concat p q (λ s t. refl)
by_places method.Replace a b c held recv other p q e f = none held method.Replace p q (λ s t. refl)
by_places method.Insert a b c held recv other p q e f = none held method.Insert p q (λ s t. refl)
by_places method.Index a b c held recv other p q e f = none held method.Index p q (λ s t. refl)
by_places method.LastIndex a b c held recv other p q e f = none held method.LastIndex p q (λ s t. refl)
by_places method.Substitute a b c held recv other p q e f = none held method.Substitute p q (λ s t. refl)
by_places method.SubstituteAll a b c held recv other p q e f = none held method.SubstituteAll p q (λ s t. refl)
by_places method.Split a b c held recv other p q e f = none held method.Split p q (λ s t. refl)
by_places method.Center a b c held recv other p q e f = none held method.Center p q (λ s t. refl)
by_places method.LeftJustify a b c held recv other p q e f = none held method.LeftJustify p q (λ s t. refl)
by_places method.RightJustify a b c held recv other p q e f = none held method.RightJustify p q (λ s t. refl)
by_places method.ToInteger a b c held recv other p q e f = none held method.ToInteger p q (λ s t. refl)
by_places method.ToText a b c held recv other p q e f = none held method.ToText p q (λ s t. refl)
by_places method.ToSymbol a b c held recv other p q e f = none held method.ToSymbol p q (λ s t. refl)
by_places method.Intern a b c held recv other p q e f = none held method.Intern p q (λ s t. refl)
by_places method.IsEmpty a b c held recv other p q e f = none held method.IsEmpty p q (λ s t. refl)
by_places method.Ordinal a b c held recv other p q e f = none held method.Ordinal p q (λ s t. refl)
by_places method.Inspect a b c held recv other p q e f = none held method.Inspect p q (λ s t. refl)

pub read_is_given : (m : StringMethod) → m ≢ method.Plus → m ≢ method.Element → m ≢ method.Append
    → (held : Held) (recv other : Value)
    → given (row.String m) held recv (other ∷ []) ≡ (read_texts held.store.objects m recv other, held)
read_is_given m a b c held recv other = by_places m a b c held recv other _ _ refl refl
