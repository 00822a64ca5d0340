-- One more of several Strings, and one more part of one.
use Rattle.std.proofs.Common.{◌≡◌, ℕ, ◌+◌, ◌<◌, ◌≤◌, List, [], ◌++◌, length, get_or, drop, refl, ap, sym, ◌∙◌, drop-cons, add-one, append_assoc, append-nil}
use Rattle.std.proofs.lemmas.List.{drop_all}
use Rattle.std.proofs.lemmas.List.Elements.{All-get_or}
use Rattle.rb_value.specs.declared.value.Value.{Value}
use Rattle.rb_value.specs.Object.{Object}
use Rattle.rb_string.specs.declared.part.Part.{Part}
use Rattle.rb_string.specs.Parts.{IsWithin, AllWithin}
use Rattle.def_rows.specs.Operands.{text}
use Rattle.def_rows.specs.StringRows.{joined}

joined_here : (objects : List Object) (values : List Value) (n : ℕ) (d : Value) → n < length values
    → joined objects (drop n values) ≡ text objects (get_or values n d) ++ joined objects (drop (n + 1) values)
unfolding joined
joined_here objects values n d within = rw (drop-cons values n d within, add-one) refl

pub joined_step : (objects : List Object) (made all : List ℕ) (values : List Value) (n : ℕ) (d : Value)
    → n < length values → made ++ joined objects (drop n values) ≡ all
    → made ++ text objects (get_or values n d) ++ joined objects (drop (n + 1) values) ≡ all
joined_step objects made all values n d within is =
    append_assoc made (text objects (get_or values n d)) (joined objects (drop (n + 1) values))
    ∙ ap (λ l. made ++ l) (sym (joined_here objects values n d within)) ∙ is

joined_end : (objects : List Object) (values : List Value) (n : ℕ) → length values ≤ n
    → joined objects (drop n values) ≡ []
unfolding joined
joined_end objects values n past = rw (drop_all n values past) refl

pub joined_whole : (objects : List Object) (made all : List ℕ) (values : List Value) (n : ℕ) → length values ≤ n
    → made ++ joined objects (drop n values) ≡ all → made ≡ all
joined_whole objects made all values n past is =
    sym (append-nil made) ∙ ap (λ l. made ++ l) (sym (joined_end objects values n past)) ∙ is

-- each part lies in the text
pub part_at : (bytes : List ℕ) (ps : List Part) (n : ℕ) (d : Part) → n < length ps → AllWithin bytes ps
    → IsWithin bytes (get_or ps n d)
part_at bytes ps n d within all = All-get_or (IsWithin bytes) ps n d within all
