-- What is stored in a list, and seen in the list of what is seen.
use Rattle.std.proofs.Common.{◌≡◌, ℕ, ◌+◌, ◌<◌, ◌≤◌, List, length, map, Bool, true, false, nat_eq, refl, ap, ◌∙◌}
use Rattle.std.specs.Prelude.{Some, None}
use Rattle.std.specs.List.{slice_get, slice_index_or, slice_set}
use Rattle.std.specs.Option.{option_map}
use Rattle.std.proofs.lemmas.List.{set-get_or}
use Rattle.std.proofs.lemmas.Option.{slice_get-map, slice_get_read, slice_get_past}
use Rattle.rb_value.specs.declared.value.Value.{Value}
use Rattle.vm_frames.specs.Seen.{Seen, Line, Env, Around, with_exits}
use Rattle.vm_frames.specs.Levels.{exchange}
use Rattle.vm_frames.specs.Registers.{wrapped}
use Rattle.vm_frames.specs.Exits.{put, pending, taken, with_exit, without, pending_number}
use Rattle.vm_frames.specs.Environments.{closed, closed_if, stands_in, line_put, with_value, written_aside, written_env}
use Rattle.vm_frames.specs.declared.frame.Frame.{Frame}
use Rattle.rb_value.specs.declared.exit.Exit.{Exit}
use Rattle.rb_value.specs.declared.exit.Slot.TheVariants.{E}
use Rattle.rb_value.specs.Slot.{read}

pub get_seen : {X Y : Type 0} (f : X → Y) (xs : List X) (n : ℕ) (x : X) → n < length xs → x ≡ slice_index_or xs n x
    → slice_get (map f xs) n ≡ Some (f x)
get_seen f xs n x within same =
    slice_get-map f xs n ∙ ap (option_map f) (slice_get_read xs (length xs) n x refl within same)

pub get_none : {X Y : Type 0} (f : X → Y) (xs : List X) (n : ℕ) → length xs ≤ n → slice_get (map f xs) n ≡ None
get_none f xs n past = slice_get-map f xs n ∙ ap (option_map f) (slice_get_past xs n past)

-- an item is put where it is
pub same_seen : {X Y : Type 0} (f : X → Y) (xs : List X) (n : ℕ) (x : X) → n < length xs → x ≡ slice_index_or xs n x
    → map f (slice_set xs n x) ≡ map f xs
same_seen f xs n x within same = ap (map f) (ap (slice_set xs n) same ∙ set-get_or xs n x)

-- a line is exchanged with that of a number
pub exchange_some : (r : Seen) (n : ℕ) (l : Line) → slice_get r.around.others n ≡ Some l
    → exchange r n ≡ record r { line = l; around = record r.around { others = slice_set r.around.others n r.line } }
exchange_some r n l there = rw there refl

pub exchange_none : (r : Seen) (n : ℕ) → slice_get r.around.others n ≡ None → exchange r n ≡ r
exchange_none r n none = rw none refl

-- an environment is closed where it stands in the line that runs
pub closed_some : (a : Around) (rs : List Value) (n : ℕ) (e : Env) (b : Bool)
    → slice_get a.envs n ≡ Some e → stands_in e a.running ≡ b → closed a rs n ≡ closed_if b a rs n e
closed_some a rs n e b there here = rw (there, here) refl

pub closed_none : (a : Around) (rs : List Value) (n : ℕ)
    → slice_get a.envs n ≡ None → closed a rs n ≡ a
closed_none a rs n none = rw none refl

-- a register of another line gets a value
pub aside_some : (a : Around) (n at : ℕ) (v : Value) (l : Line) → slice_get a.others n ≡ Some l
    → written_aside a n at v ≡ record a { others = slice_set a.others n (line_put l at v) }
aside_some a n at v l there = rw there refl

-- a register of an environment gets a value, by where it stands
pub written_closed : (a : Around) (rs : List Value) (n : ℕ) (e : Env) (b : ℕ) (v : Value)
    → slice_get a.envs n ≡ Some e → e.is_open ≡ false
    → written_env a rs n b v
    ≡ record { registers = rs; around = record a { envs = slice_set a.envs n (with_value e b v) } }
written_closed a rs n e b v there shut = rw (there, shut) refl

pub written_here : (a : Around) (rs : List Value) (n : ℕ) (e : Env) (b : ℕ) (v : Value)
    → slice_get a.envs n ≡ Some e → e.is_open ≡ true → nat_eq e.line a.running ≡ true
    → written_env a rs n b v ≡ record { registers = slice_set rs (wrapped (e.base + b)) v; around = a }
written_here a rs n e b v there stands here = rw (there, stands, here) refl

pub written_there : (a : Around) (rs : List Value) (n : ℕ) (e : Env) (b : ℕ) (v : Value)
    → slice_get a.envs n ≡ Some e → e.is_open ≡ true → nat_eq e.line a.running ≡ false
    → written_env a rs n b v
    ≡ record { registers = rs; around = written_aside a e.line (wrapped (e.base + b)) v }
written_there a rs n e b v there stands aside = rw (there, stands, aside) refl

-- the exit that is pending is taken
pub taken_some : (r : Seen) (f : Frame) (a : ℕ) (x : Exit) → pending r f ≡ Some x
    → taken r f a ≡ with_exits (put r f a (read (E x)))
    (without (with_exit r.around.exits f.number a x) f.number pending_number)
taken_some r f a x h = rw h refl
