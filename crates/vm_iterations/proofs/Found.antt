-- What is done behind a search, which is remembered.
use Rattle.std.proofs.Common.{◌≡◌, refl, ap, sym, subst, ◌∙◌}
use Rattle.std.specs.Prelude.{Bool, true, false, Option, Some, None, Result, Ok, Err, IfOk}
use Rattle.std.specs.declared.alloc.AllocError.{AllocError}
use Rattle.rb_value.specs.declared.value.Value.{Value}
use Rattle.rb_value.specs.declared.value.ObjId.{ObjId}
use Rattle.rb_value.specs.declared.value.SymId.{SymId}
use Rattle.vm_parts.specs.Below.frames.{Begun, Frame}
use Rattle.vm_parts.specs.Below.frames.levels as levels
use Rattle.vm_parts.specs.Below.frames.seen.{Seen}
use Rattle.vm_parts.specs.declared.flow.Flow.{Flow}
use Rattle.vm_parts.specs.declared.known.KnownCalls.{KnownCalls}
use Rattle.vm_parts.specs.declared.loaded.Loaded.{Loaded}
use Rattle.vm_parts.specs.declared.known.Usual.{Usual}
use Rattle.vm_parts.specs.Beside.{Beside, with_seen}
use Rattle.vm_parts.specs.Calling.{When}
use Rattle.vm_parts.specs.Finding.{class_of}
use Rattle.vm_parts.specs.Known.{of as known_of}
use Rattle.heap.specs.declared.making.Blank.{Blank}
use Rattle.vm_iterations.specs.declared.firsts.First.{First}
use Rattle.vm_iterations.specs.declared.firsts.Initialize.{Initialize}
use Rattle.vm_iterations.specs.Beginning.{BeginsInPlace, BeginsOr, BeginsWith, Equal, EqualBy, EqualIn, Finds, FindsFirst, Keeps, Makes, Raised, can_raise, found_in, initialize_of, makes, noted_in, raises_by}

-- nothing else changes
pub finds : (b m : Beside) (class : ObjId) (name : SymId) (calls : KnownCalls) (wanted found : Option First)
    → m ≡ record b { known = calls } → known_of calls ≡ noted_in b class name → found ≡ wanted
    → Finds b class name wanted found m
finds b m class name calls wanted found alone notes is =
    record { calls = calls; remembers = notes; done = (is, alone) }

-- or what `==` is is asked
pub equal_found : (b m after : Beside) (class : ObjId) (calls : KnownCalls) (u : Option Usual) (negating : Bool)
    (i : Begun) (r : Result (Option First) AllocError) → m ≡ record b { known = calls }
    → known_of calls ≡ noted_in b class b.names.equal → u ≡ found_in b class b.names.equal
    → class ≡ class_of b.heap.store i.receiver
    → IfOk r (λ found. EqualBy u negating m i found after) → IfOk r (λ found. Equal negating b i found after)
equal_found b m after class calls u negating i (Ok found) alone notes is of_receiver equal =
    subst (λ (k : ObjId). EqualIn k negating b i found after) of_receiver (record {
      calls = calls;
      remembers = notes;
      done = subst (λ (x : Option Usual). EqualBy x negating (record b { known = calls }) i found after) is
          (subst (λ (z : Beside). EqualBy u negating z i found after) alone equal);
    })
equal_found b m after class calls u negating i (Err x) alone notes is of_receiver equal = tt

-- or `new` of a class that is raised

new_found : (b m : Beside) (class : ObjId) (calls : KnownCalls) (u : Option Usual) (v : Value)
    (found : Option First) → m ≡ record b { known = calls } → known_of calls ≡ noted_in b class b.names.new
    → u ≡ found_in b class b.names.new → class ≡ class_of b.heap.store v → found ≡ raises_by v u
    → Finds b (class_of b.heap.store v) b.names.new
    (raises_by v (found_in b (class_of b.heap.store v) b.names.new)) found m
new_found b m class calls u v found alone notes is of_value raises =
    subst (λ (k : ObjId). Finds b k b.names.new (raises_by v (found_in b k b.names.new)) found m) of_value
    (finds b m class b.names.new calls (raises_by v (found_in b class b.names.new)) found alone notes
    (raises ∙ ap (λ (x : Option Usual). raises_by v x) is))

pub raise_found : (b m : Beside) (class : ObjId) (calls : KnownCalls) (u : Option Usual) (v : Value)
    (found : Option First) → m ≡ record b { known = calls } → known_of calls ≡ noted_in b class b.names.new
    → u ≡ found_in b class b.names.new → class ≡ class_of b.heap.store v → found ≡ raises_by v u
    → can_raise b v ≡ true → Raised v b found m
raise_found b m class calls u v found alone notes is of_value raises can =
    subst (λ (z : Bool). When z (Finds b (class_of b.heap.store v) b.names.new
    (raises_by v (found_in b (class_of b.heap.store v) b.names.new)) found m) (Keeps None b found m)) (sym can)
    (new_found b m class calls u v found alone notes is of_value raises)

pub raise_not : (b : Beside) (v : Value) → can_raise b v ≡ false → Raised v b None b
raise_not b v cannot = subst (λ (z : Bool). When z (Finds b (class_of b.heap.store v) b.names.new
    (raises_by v (found_in b (class_of b.heap.store v) b.names.new)) None b) (Keeps None b None b)) (sym cannot)
    (refl, refl)

-- or `initialize` of a class
pub object_found : (b m : Beside) (class : ObjId) (k : Blank) (calls : KnownCalls) (o : Option Initialize)
    (found : Option First) → m ≡ record b { known = calls }
    → known_of calls ≡ noted_in b class b.names.initialize → o ≡ initialize_of b class → found ≡ makes class k o
    → Makes k b class found m
object_found b m class k calls o found alone notes is made =
    finds b m class b.names.initialize calls (makes class k (initialize_of b class)) found alone notes
    (made ∙ ap (λ (x : Option Initialize). makes class k x) is)

-- an iteration begins in place, or not
pub begins_here : (c : Loaded) (b left : Beside) (s : Seen) (f g : Frame) (i : Begun) (after : Beside)
    (o : Option First) (found : First) (next : Flow) → FindsFirst i.row b i o left
    → BeginsWith found c (with_seen left s) f i next g after → s ≡ levels.with_begun left.seen None → o ≡ Some found
    → BeginsInPlace c b f i (Some next) g after
begins_here c b left s f g i after o found next finds begins taken is = record {
  found = o;
  left = left;
  finds = finds;
  begins = subst (λ (x : Option First). BeginsOr x c left f i (Some next) g after) (sym is)
      (subst (λ (q : Seen). BeginsWith found c (with_seen left q) f i next g after) taken begins);
}

pub begins_not : (c : Loaded) (b left : Beside) (f : Frame) (i : Begun) (o : Option First)
    → FindsFirst i.row b i o left → o ≡ None → BeginsInPlace c b f i None f left
begins_not c b left f i o finds is = record {
  found = o;
  left = left;
  finds = finds;
  begins = subst (λ (x : Option First). BeginsOr x c left f i None f left) (sym is) (refl, (refl, refl));
}
