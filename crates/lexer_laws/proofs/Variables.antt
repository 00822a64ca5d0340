-- Instance and global variables.
use Rattle.std.proofs.Common.{◌≡◌, ℕ, ◌+◌, List, drop, get_or, arith, refl, sym, ap, ◌∙◌, subst, true}
use Rattle.rb_syntax.specs.declared.token.TokenKind.TheVariants as kinds
use Rattle.lexer_tables.specs.ByteClass.{is_name_start}
use Rattle.lexer_steps.specs.Scan.{name_end}
use Rattle.lexer_steps.specs.State.{State}
use Rattle.lexer_steps.specs.Names.{spelled, variable_of, variable_step}
use Rattle.lexer_laws.specs.Longest.{IsLongest}
use Rattle.lexer_laws.specs.Names.{IsName, IsVariable}
use Rattle.lexer_laws.specs.Place.{after}
use Rattle.lexer_laws.specs.Reads.{IsVariableToken, value_at, is_newline, bars_after}
use Rattle.lexer_laws.specs.Taking.{took}
use Rattle.lexer_laws.proofs.Runs.{name_sound, longest_once}
use Rattle.lexer_laws.proofs.Steps.{passed, both_are}

abbrev pub variable_end : List ℕ → ℕ → ℕ
variable_end text at = name_end (at + 2) (drop (at + 2) text)

variable_longest : (sigil : ℕ) (text : List ℕ) (at : ℕ) → get_or text at 0 ≡ sigil
    → is_name_start (get_or text (at + 1) 0) ≡ true → IsLongest (IsVariable sigil text at) (variable_end text at)
variable_longest sigil text at first begins =
    let e : at + 1 + 1 ≡ at + 2 = omega arith in
    let l : IsLongest (IsName text (at + 1)) (variable_end text at) = rw (← e) (name_sound text (at + 1) begins) in
    record { there = record { sigil_there = first; name = l.there }; longest = λ other v. l.longest other v.name }

variable_ends : (sigil : ℕ) (text : List ℕ) (at end : ℕ) → IsLongest (IsVariable sigil text at) end
    → variable_end text at ≡ end
variable_ends sigil text at end l = longest_once (IsVariable sigil text at) _ end
    (variable_longest sigil text at l.there.sigil_there l.there.name.begins) l

pub instance_read : (text : List ℕ) (at end : ℕ) (bytes : List ℕ) (s : State) → IsVariableToken 64 text at bytes end
    → variable_step text at s ≡ passed (took s at (kinds.InstanceVariable bytes)) end
unfolding variable_step variable_of after value_at is_newline bars_after
instance_read text at end bytes s v =
    let e = variable_ends 64 text at end v.name in
    rw (v.name.there.name.begins, v.name.there.sigil_there, e, v.bytes_are) refl

pub global_read : (text : List ℕ) (at end : ℕ) (bytes : List ℕ) (s : State) → IsVariableToken 36 text at bytes end
    → variable_step text at s ≡ passed (took s at (kinds.GlobalVariable bytes)) end
unfolding variable_step variable_of after value_at is_newline bars_after
global_read text at end bytes s v =
    let e = variable_ends 36 text at end v.name in
    rw (v.name.there.name.begins, v.name.there.sigil_there, e, v.bytes_are) refl

variable_there : (sigil : ℕ) (text : List ℕ) (at : ℕ) → get_or text at 0 ≡ sigil
    → is_name_start (get_or text (at + 1) 0) ≡ true → IsVariableToken sigil text at
    (spelled text at (variable_end text at)) (variable_end text at)
variable_there sigil text at first begins = record {
  name = variable_longest sigil text at first begins;
  bytes_are = refl;
}

abbrev pub There : ℕ → List ℕ → ℕ → ℕ → Type 0
There sigil text at end = IsVariableToken sigil text at (spelled text at end) end

pub instance_token : (text : List ℕ) (at end : ℕ) (s t : State) → get_or text at 0 ≡ 64
    → is_name_start (get_or text (at + 1) 0) ≡ true → variable_step text at s ≡ passed t end
    → There 64 text at end × (t ≡ took s at (kinds.InstanceVariable (spelled text at end)))
instance_token text at end s t first begins h =
    let v = variable_there 64 text at first begins in
    let p = both_are t _ end _ (sym h ∙ instance_read text at (variable_end text at) _ s v) in (
      subst (There 64 text at) (sym p.1) v,
      p.0 ∙ ap (λ (e : ℕ). took s at (kinds.InstanceVariable (spelled text at e)))
          (sym p.1),
    )

pub global_token : (text : List ℕ) (at end : ℕ) (s t : State) → get_or text at 0 ≡ 36
    → is_name_start (get_or text (at + 1) 0) ≡ true → variable_step text at s ≡ passed t end
    → There 36 text at end × (t ≡ took s at (kinds.GlobalVariable (spelled text at end)))
global_token text at end s t first begins h =
    let v = variable_there 36 text at first begins in
    let p = both_are t _ end _ (sym h ∙ global_read text at (variable_end text at) _ s v) in (
      subst (There 36 text at) (sym p.1) v,
      p.0 ∙ ap (λ (e : ℕ). took s at (kinds.GlobalVariable (spelled text at e)))
          (sym p.1),
    )
