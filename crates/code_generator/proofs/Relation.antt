-- When a configuration of the evaluation and a state of the machine are alike.
use Rattle.std.proofs.Common.{◌≡◌, ℕ, ◌+◌, ◌<◌, ◌≤◌, List, [], ◌∷◌, ◌++◌, length, map, take}
use Rattle.path_value.specs.declared.value.Value.{Value}
use Rattle.rite_code.specs.Code.{Program}
use Rattle.rite_code.specs.declared.operation.Operation.TheVariants.{Stop}
use Rattle.path_eval.specs.Seen.{Uncaught}
use Rattle.path_eval.specs.Steps.{Matched}
use Rattle.path_eval.specs.Configuration as source
use Rattle.path_eval.specs.Configuration.{Source, Part, Item, inside, activation, Exit, raise, Focus, perform, give, travel, Scope, World, Config, Run, Halt, seen}
use Rattle.path_eval.specs.Transition.{go}
use Rattle.path_eval.specs.Measure.{measure}
use Rattle.path_turns.specs.State.{Slot, value, read, body_at, Registers, list_at, slot_at, Frame, Memory, State, On, Off, shown}
use Rattle.path_turns.specs.Turn.{turn}
use Rattle.code_generator.proofs.Stands.{Around, Ins, Stands, spared, kept, Behind}

-- these slots stand in a row of registers
abbrev pub Holds : List Registers → ℕ → ℕ → List Slot → Type 0
Holds ls n r [] = Unit {0}
Holds ls n r (v ∷ vs) = (slot_at ls n r ≡ v) × Holds ls n (r + 1) vs

-- the registers after self
abbrev pub behind_self : List Slot → List Slot
behind_self [] = []
behind_self (s ∷ ss) = ss

-- a list of registers has the size of its body, whose locals are self and the names of the source
pub record Fits (q : Source) (p : Program) (ls : List Registers) (b n : ℕ) : Type 0 where
  pub present : n < length ls
  pub long : length (list_at ls n).slots ≡ (body_at p b).registers
  pub own : (list_at ls n).of ≡ b
  pub layout : (body_at p b).locals ≡ length (source.body_at q b).names + 1

-- Where a value stands in register r at a byte of a body, the code goes on with these items.
abbrev pub Awaits : Source → Program → List Registers → List Item → Around → ℕ → ℕ → List Frame → ℕ → ℕ → Type 0
Awaits q p ls [] h b n fs at r = record { stop : Ins p b at Stop; fits : Fits q p ls b n }
Awaits q p ls (inside k ∷ ks) h b n fs at r = record {
  low : ℕ;
  kept_below : low + spared k + length (kept k) ≡ r;
  locals_below : (body_at p b).locals ≤ low;
  held : Holds ls n (low + spared k) (kept k);
  end : ℕ;
  behind : Behind p b h k low at end;
  next : Awaits q p ls ks h b n fs end low;
}
Awaits q p ls (activation a ∷ ks) h b n fs at r =
    record { last : ks ≡ []; stop : Ins p b at Stop; fits : Fits q p ls b n }

-- the scope of a list of registers
abbrev pub scope_of : Source → Registers → Scope
scope_of q l = record {
  of = l.of;
  values = map read (take (length (source.body_at q l.of).names) (behind_self l.slots));
}

pub record Same (q : Source) (w : World) (n : ℕ) (m : Memory) : Type 0 where
  pub is_scope : w.place.scope ≡ n
  pub input : w.input ≡ m.input
  pub out : w.out ≡ m.out
  pub scopes : w.scopes ≡ map (scope_of q) m.lists

-- what the focus says of the frames
abbrev pub Focused : Source → Program → Focus → List Item → World → Frame → List Frame → Memory → Type 0
Focused q p (perform e) ks w f fs m = record {
  same : Same q w f.list m;
  h : Around;
  names : h.names ≡ (source.body_at q f.body).names;
  r : ℕ;
  above : (body_at p f.body).locals ≤ r;
  end : ℕ;
  code : Stands p f.body h e r f.pc end;
  next : Awaits q p m.lists ks h f.body f.list fs end r;
}
Focused q p (give v) ks w f fs m = record {
  same : Same q w f.list m;
  h : Around;
  names : h.names ≡ (source.body_at q f.body).names;
  r : ℕ;
  stands : slot_at m.lists f.list r ≡ value v;
  next : Awaits q p m.lists ks h f.body f.list fs f.pc r;
}
-- the next turn ends the program with the exception
Focused q p (travel (raise e)) ks w f fs m = record {
  out : w.out ≡ m.out;
  throws : turn p (On f fs m) ≡ Off (Uncaught m.out e);
}

abbrev pub Related : Source → Program → Config → State → Type 0
Related q p (Halt s) (Off t) = t ≡ s
Related q p (Halt s) (On f fs m) = ⊥
Related q p (Run x ks w) (Off t) = ⊥
Related q p (Run x ks w) (On f fs m) = Focused q p x ks w f fs m

-- A value given to a part: it stands in a row with the values that the part kept, after the registers that it spares.
pub record Given (q : Source) (p : Program) (v : Value) (k : Part) (ks : List Item) (w : World) (f : Frame)
    (fs : List Frame) (m : Memory) : Type 0 where
  pub same : Same q w f.list m
  pub h : Around
  pub names : h.names ≡ (source.body_at q f.body).names
  pub r : ℕ
  pub above : (body_at p f.body).locals ≤ r
  pub held : Holds m.lists f.list (r + spared k) (kept k ++ value v ∷ [])
  pub end : ℕ
  pub behind : Behind p f.body h k r f.pc end
  pub next : Awaits q p m.lists ks h f.body f.list fs end r
  pub fits : Fits q p m.lists f.body f.list

-- one transition, matched by turns
abbrev pub Step : Source → Program → Config → State → Type 0
Step q p c t = Matched (go q) (turn p) seen shown measure (Related q p) c t
