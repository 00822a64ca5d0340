-- What a step leaves as it is: all but the list of registers of the frame that runs, its scope, and the world, to which
-- activations are added.
use Rattle.std.proofs.Common.{◌≡◌, ◌≢◌, ℕ, ◌+◌, ◌-◌, ◌<◌, ◌≤◌, List, [], ◌∷◌, refl, sym, ap, ◌∙◌, subst, arith, length, length-set, length-append, get_or, Bool, true, false, inl, ⊎_elim}
use Rattle.std.specs.Prelude.{nat_eq, if◌then◌else◌, Option, Some, None, unwrap_or, slice_get}
use Rattle.std.proofs.lemmas.Bool.{cases_eq, eqb-true, eqb-false}
use Rattle.std.proofs.lemmas.List.{append-nil, get_or_append_left}
use Rattle.rb_value.specs.declared.value.Value.{Value}
use Rattle.rb_value.specs.declared.value.Value.TheVariants.{Nil}
use Rattle.rb_value.specs.declared.exit.Slot.TheVariants.{V}
use Rattle.rb_value.specs.Slot.{read}
use Rattle.rite_code.specs.Code.{Program}
use Rattle.ir_core.specs.CoreForm.{Local}
use Rattle.gen_forms.specs.declared.context.Loop.{Loop}
use Rattle.def_calls.specs.World.{World, Activation, no_activation, activation_at}
use Rattle.def_calls.specs.Fibers as fibers
use Rattle.def_eval.specs.Source.{Source}
use Rattle.def_eval.specs.Configuration as source
use Rattle.def_eval.specs.Configuration.{Place, Scope, Item, Kept}
use Rattle.def_eval.specs.Scopes.{value_in, scope_at, scope_of, put_in, with_variable}
use Rattle.def_machine.specs.State as machine
use Rattle.def_machine.specs.State.{Registers, Frame, Level, frame, body_at, list_at, slot_at, value_at, put}
use Rattle.step_laws.specs.Site.{bare, Site, place_in, register, Known}
use Rattle.step_laws.specs.Calm.{GrowsBy, Grows}
use Rattle.def_core.specs.Sound.{OptionIs}
use Rattle.eval_laws.specs.Procs.{HasProc}
use Rattle.step_laws.specs.Around.{further_slots}
use Rattle.step_laws.specs.Relation.{EndsBy, stops, returns, Ends, IsSite, Waits, Ground, over_levels, InFrame, Same, Mirrors, SiteIs, Linked, SeesIn, SitesAre, FibersAre, AllFibers, uses, uses_in, Both, Running}
use Rattle.scope_laws.specs.Numbers.{parents, outers}
use Rattle.step_laws.proofs.Bared.{same_by}
use Rattle.step_laws.proofs.Registers.{keeps_by, Keeps, keeps_local, inside_kept, outers_put, parents_put, list_other, length_put, scope_other, same_above, put_alike, assigned}

-- lists that differ in that of one number alone
pub record OnlyIn (c : ℕ) (l l' : List Registers) : Type 0 where
  pub others : (n : ℕ) → n ≢ c → list_at l' n ≡ list_at l n

pub put_only : (l : List Registers) (c i : ℕ) (v : Value) → OnlyIn c l (put l c i (V v))
put_only l c i v = record { others = λ n ne. list_other l c i n (V v) ne }

keeps_other : (h : Site) (l l' : List Registers) (c r : ℕ) → OnlyIn c l l' → h.list ≢ c → Keeps h l l' r
unfolding slot_at
keeps_other h l l' c r o ne = record {
  same = λ i above below. ap (λ (g : Registers). get_or g.slots i (V Nil)) (o.others h.list ne);
}

-- a frame whose list isn't that of the number
apart_from : (n i u : ℕ) → (if nat_eq n i then 1 else 0) + u ≡ 0 → (n ≢ i) × (u ≡ 0)
apart_from n i u e = at (nat_eq n i) refl e
  where
    at : (b : Bool) → nat_eq n i ≡ b → (if b then 1 else 0) + u ≡ 0 → (n ≢ i) × (u ≡ 0)
    at true q z = absurd (omega (arith, z))
    at false q z = (eqb-false n i q, omega (arith, z))

pub ends_kept : (h : Site) (fiber : fibers.Name) (ls : List Level) (F G : Place → List Item → Type 0)
    → ((p : Place) (is : List Item) → F p is → G p is) → (a : ℕ) (p : Place) (is : List Item) (n r : ℕ)
    → Ends h fiber ls F a p is n r → Ends h fiber ls G a p is n r
ends_kept h fiber ls F G to a p is n r e = record { is = e.is; by = at e.by }
  where
    at : EndsBy h fiber ls F p is n r → EndsBy h fiber ls G p is n r
    at (stops l main last none root) = stops l main last none root
    at (returns l next) = returns l (to p is next)

pub leaves_end : (h : Site) (fiber : fibers.Name) (ls : List Level) (F : Place → List Item → Type 0) (hs : List Site)
    (l : List Registers) → ((p : Place) (is : List Item) → F p is → Waits hs fiber l is p ls) → (p : Place)
    (is : List Item) (n r : ℕ) → EndsBy h fiber ls F p is n r → Waits hs fiber l is p ls
leaves_end h fiber ls F hs l to p is n r (stops at main last bare root) =
    subst (λ (gs : List Level). Waits hs fiber l is p gs) (sym bare) last
leaves_end h fiber ls F hs l to p is n r (returns at next) = to p is next

-- the lists of frames are such ones
abbrev Lists : (ℕ → Type 0) → List Level → Type 0
Lists P [] = Unit {0}
Lists P (frame f ∷ ls) = P f.list × Lists P ls
Lists P (machine.iteration a it v ∷ ls) = Lists P ls

abbrev ListsIn : (ℕ → Type 0) → List (fibers.Fiber (List Level)) → Type 0
ListsIn P [] = Unit {0}
ListsIn P (f ∷ fs) = Lists P f.kept × ListsIn P fs

-- where no frame has a list, each is another one; and any is some list
others_only : (c : ℕ) (ls : List Level) → uses c ls ≡ 0 → Lists (λ n. n ≢ c) ls
others_only c [] u = tt
others_only c (frame f ∷ ls) u =
    let a = apart_from c f.list (uses c ls) u in ((λ (e : f.list ≡ c). a.0 (sym e)), others_only c ls a.1)
others_only c (machine.iteration a it v ∷ ls) u = others_only c ls u

others_in : (c : ℕ) (fs : List (fibers.Fiber (List Level))) → uses_in c fs ≡ 0 → ListsIn (λ n. n ≢ c) fs
others_in c [] u = tt
others_in c (f ∷ fs) u = (others_only c f.kept (omega (arith, u)), others_in c fs (omega (arith, u)))

any_only : (ls : List Level) → Lists (λ n. Unit {0}) ls
any_only [] = tt
any_only (frame f ∷ ls) = (tt, any_only ls)
any_only (machine.iteration a it v ∷ ls) = any_only ls

any_in : (fs : List (fibers.Fiber (List Level))) → ListsIn (λ n. Unit {0}) fs
any_in [] = tt
any_in (f ∷ fs) = (any_only f.kept, any_in fs)

-- what waits is untouched, where the sites of its lists keep what stands above their locals
module _ (hs : List Site) (l l' : List Registers) (P : ℕ → Type 0)
    (kept : (h : Site) → IsSite hs h → P h.list → (r : ℕ) → Keeps h l l' r) where
  waits_by : (fiber : fibers.Name) (ks : List Item) (place : Place) (ls : List Level) → Lists P ls
      → Waits hs fiber l ks place ls → Waits hs fiber l' ks place ls
  waits_by fiber ks place [] u w = w
  waits_by fiber ks place (frame f ∷ ls) u w = record {
    h = w.h;
    x = w.x;
    at = w.at;
    n = w.n;
    is = w.is;
    site = w.site;
    after = w.after;
    room = w.room;
    there = w.there;
    guarded = w.guarded;
    around = w.around;
    next = inside_kept w.h l l' (λ b p is i t. Ends (bare w.h) fiber ls (λ q js. Waits hs fiber l js q ls) b p is i t)
        (λ b p is i t. Ends (bare w.h) fiber ls (λ q js. Waits hs fiber l' js q ls) b p is i t)
        (ends_kept (bare w.h) fiber ls (λ q js. Waits hs fiber l js q ls) (λ q js. Waits hs fiber l' js q ls)
        (λ q js. waits_by fiber js q ls u.1)) ks w.n w.x.waits w.around
        (kept w.h w.site (subst (λ (q : Frame). P q.list) w.is u.0) w.x.waits) w.next;
  }
  waits_by fiber ks place (machine.iteration a it v ∷ ls) u w = record {
    others = w.others;
    back = w.back;
    is = w.is;
    next = waits_by fiber w.others w.back ls u w.next;
  }

  fibers_by : (fs : List (fibers.Fiber Kept)) (gs : List (fibers.Fiber (List Level))) → ListsIn P gs
      → FibersAre hs l fs gs → FibersAre hs l' fs gs
  fibers_by [] [] u a = a
  fibers_by [] (g ∷ gs) u a = absurd a
  fibers_by (f ∷ fs) [] u a = absurd a
  fibers_by (f ∷ fs) (g ∷ gs) u a =
      let i = a.0 in (
        record {
          name = i.name;
          wait = i.wait;
          resumer = i.resumer;
          rooted = i.rooted;
          some = i.some;
          waits = waits_by f.name f.kept.items f.kept.place g.kept u.0 i.waits;
        },
        fibers_by fs gs u.1 a.1,
      )

pub waits_kept : (hs : List Site) (fiber : fibers.Name) (l l' : List Registers) (c : ℕ) → OnlyIn c l l'
    → (ks : List Item) (place : Place) (ls : List Level) → uses c ls ≡ 0 → Waits hs fiber l ks place ls
    → Waits hs fiber l' ks place ls
waits_kept hs fiber l l' c o ks place ls u w =
    waits_by hs l l' (λ n. n ≢ c) (λ h is ne r. keeps_other h l l' c r o ne) fiber ks place ls (others_only c ls u) w

fibers_kept : (hs : List Site) (l l' : List Registers) (c : ℕ) → OnlyIn c l l' → (fs : List (fibers.Fiber Kept))
    (gs : List (fibers.Fiber (List Level))) → uses_in c gs ≡ 0 → FibersAre hs l fs gs → FibersAre hs l' fs gs
fibers_kept hs l l' c o fs gs u a =
    fibers_by hs l l' (λ n. n ≢ c) (λ h is ne r. keeps_other h l l' c r o ne) fs gs (others_in c gs u) a

-- The items of the frame that runs, where its list changes behind them.
pub frame_kept : (g : Ground) (h : Site) (l l' : List Registers) (ks : List Item) (n r : ℕ) (around : Option Loop)
    → Keeps h l l' r → OnlyIn h.list l l' → uses h.list g.below ≡ 0 → InFrame g h l ks n r around
    → InFrame g h l' ks n r around
frame_kept g h l l' ks n r around k o u a =
    inside_kept h l l' (λ b p is i t. Ends (bare h) g.fiber g.below (λ q js. Waits g.sites g.fiber l js q g.below) b p is i t)
    (λ b p is i t. Ends (bare h) g.fiber g.below (λ q js. Waits g.sites g.fiber l' js q g.below) b p is i t)
    (ends_kept (bare h) g.fiber g.below (λ q js. Waits g.sites g.fiber l js q g.below)
    (λ q js. Waits g.sites g.fiber l' js q g.below)
    (λ q js. waits_kept g.sites g.fiber l l' h.list o js q g.below u)) ks n r around k a

-- Sites.

-- a list has one site
site_is : (hs : List Site) (h d : Site) → IsSite hs h → IsSite hs d → d.list ≡ h.list → bare d ≡ bare h
site_is hs h d a b e = ap (λ (o : Option Site). unwrap_or o h) (sym b ∙ ap (slice_get hs) e ∙ a)

same_elsewhere : (h : Site) (cs cs' : List Scope) (l l' : List Registers) → Same h cs l
    → scope_at cs' h.list ≡ scope_at cs h.list → length cs' ≡ length cs → list_at l' h.list ≡ list_at l h.list
    → length l' ≡ length l → Same h cs' l'
unfolding slot_at
same_elsewhere h cs cs' l l' s scope scopes list lists = record {
  scope = omega (arith, s.scope, scopes);
  mirrors = subst (Mirrors h) (sym scope) s.mirrors;
  present = omega (arith, s.present, lists);
  long = ap (λ (g : Registers). length g.slots) list ∙ s.long;
  self = ap (λ (g : Registers). read (get_or g.slots 0 (V Nil))) list ∙ s.self;
  alike = λ x k. ap (λ (c : Scope). unwrap_or (value_in c.variables (x)) Nil) scope ∙ s.alike x k
      ∙ sym (ap (λ (g : Registers). read (get_or g.slots (register h x) (V Nil))) list);
}

-- the scope and the list of one site change, and no others
sites_changed : (s : Source) (p : Program) (hs : List Site) (cs cs' : List Scope) (l l' : List Registers) (w : World)
    (h : Site) → SitesAre s p hs cs l w → IsSite hs h → Same h cs' l' → length cs' ≡ length cs → length l' ≡ length l
    → ((n : ℕ) → n ≢ h.list → scope_at cs' n ≡ scope_at cs n) → OnlyIn h.list l l' → outers l' ≡ outers l
    → parents cs' ≡ parents cs → SitesAre s p hs cs' l' w
sites_changed s p hs cs cs' l l' w h a site same scopes lists elsewhere o outside around = record {
  around = outside ∙ a.around ∙ sym around;
  linked = λ d is. subst (λ (os : List (Option ℕ)). Linked hs (further_slots d.context.scopes) (get_or os d.list None))
      (sym around) (a.linked d is);
  below = λ d is. subst (λ (os : List (Option ℕ)). OptionIs (λ n. n < d.list) (get_or os d.list None)) (sym around)
      (a.below d is);
  procs = a.procs;
  scopes = scopes ∙ a.scopes;
  lists = lists ∙ a.lists;
  each = λ d is. ⊎_elim (λ e. at d is (a.each d is) (same_by h d cs' l' (site_is hs h d site is e) same))
      (λ ne. at d is (a.each d is) (same_elsewhere d cs cs' l l' (a.each d is).same (elsewhere d.list ne) scopes
      (o.others d.list ne) lists)) (cases_eq d.list h.list);
}
  where
    at : (d : Site) → IsSite hs d → SiteIs s p d cs l w → Same d cs' l' → SiteIs s p d cs' l' w
    at d is i same' = record {
      source = i.source;
      program = i.program;
      static = i.static;
      same = same';
      from_one = i.from_one;
      opened = i.opened;
      self = i.self;
      runs = i.runs;
      home = i.home;
    }

-- a register of a local of any body is written: what each body keeps above its locals stays
low_kept : (hs : List Site) (l : List Registers) (g : Site) (i : ℕ) (v : Value) → IsSite hs g → g.list < length l
    → i < g.first → (d : Site) → IsSite hs d → (r : ℕ) → Keeps d l (put l g.list i (V v)) r
low_kept hs l g i v site lt low d is r =
    ⊎_elim (λ e. keeps_by g d l (put l g.list i (V v)) r (site_is hs g d site is e) (keeps_local g l r i (V v) lt low))
    (λ ne. keeps_other d l (put l g.list i (V v)) g.list r (put_only l g.list i v) ne) (cases_eq d.list g.list)

-- activations that are there stay
pub activation_kept : (made : Option (ℕ × List ℕ)) (w u : World) (a : ℕ) → GrowsBy made w u → 1 ≤ a
    → a ≤ length w.activations → activation_at u a ≡ activation_at w a
unfolding activation_at
activation_kept made w u a g low high =
    ap (λ (xs : List Activation). get_or xs (a - 1) no_activation) g.is
    ∙ get_or_append_left w.activations g.more no_activation (a - 1) (omega (arith, low, high))

-- nothing is added
pub same_world : (w : World) → Grows w w
same_world w = record { more = []; is = sym (append-nil w.activations); procs = λ b ns is. inl is }

-- nor is it to the Procs, of which none is made
pub same_activations : (w u : World) → u.activations ≡ w.activations
    → ((b : ℕ) (ns : List ℕ) → HasProc u.store.objects b ns → HasProc w.store.objects b ns) → Grows w u
same_activations w u e all =
    record { more = []; is = e ∙ sym (append-nil w.activations); procs = λ b ns is. inl (all b ns is) }

-- where a Proc is made it sees what is around its literal
pub sites_grow_by : (made : Option (ℕ × List ℕ)) (s : Source) (p : Program) (hs : List Site) (cs : List Scope)
    (l : List Registers) (w u : World) → GrowsBy made w u → ((b : ℕ) (ns : List ℕ) → made ≡ Some (b, ns) → SeesIn s hs b ns)
    → SitesAre s p hs cs l w → SitesAre s p hs cs l u
sites_grow_by made s p hs cs l w u g sees a = record {
  scopes = a.scopes;
  lists = a.lists;
  around = a.around;
  each = λ h is. at h (a.each h is);
  linked = a.linked;
  below = a.below;
  procs = λ b ns is. ⊎_elim (λ old. a.procs b ns old) (λ new. sees b ns new) (g.procs b ns is);
}
  where
    at : (h : Site) → SiteIs s p h cs l w → SiteIs s p h cs l u
    at h i =
        let e = activation_kept made w u h.activation g i.from_one i.opened in
        let longer = ap length g.is ∙ length-append w.activations g.more in
        record {
          source = i.source;
          program = i.program;
          static = i.static;
          same = i.same;
          from_one = i.from_one;
          opened = omega (arith, i.opened, longer);
          self = ap (λ (x : Activation). x.self) e ∙ i.self;
          runs = ap (λ (x : Activation). x.runs) e ∙ i.runs;
          home = λ is. ap (λ (x : Activation). x.home) e ∙ i.home is;
        }

no_literal : (b : ℕ) (ns : List ℕ) → ◌≡◌ {A = Option (ℕ × List ℕ)} None (Some (b, ns)) → ⊥
no_literal b ns e = absurd (cc e)

pub sites_grow : (s : Source) (p : Program) (hs : List Site) (cs : List Scope) (l : List Registers) (w u : World)
    → Grows w u → SitesAre s p hs cs l w → SitesAre s p hs cs l u
sites_grow s p hs cs l w u g a = sites_grow_by None s p hs cs l w u g (λ b ns e. absurd (no_literal b ns e)) a

-- Both sides, after a change.

module _ {s : Source} {p : Program} where
  -- another world, and perhaps another place
  pub grown : (g : Ground) (m : source.Memory) (k : machine.Memory) → Both s p g m k → (place : Place) (w : World)
      → Grows m.world w → Both s p g (record m { place = place; world = w }) (machine.with_world k w)
  grown g m k b place w grows = record {
    world = refl;
    sites = sites_grow s p g.sites m.scopes k.lists m.world w grows b.sites;
    fibers = b.fibers;
    apart = b.apart;
  }

  pub same_here : (g : Ground) (h : Site) (m : source.Memory) (k : machine.Memory) → Running s p g h m k
      → Same h m.scopes k.lists
  same_here g h m k b = (b.all.sites.each h b.site).same

  -- a Proc is made of a body that sees what is around its literal
  pub made_here : (g : Ground) (h : Site) (m : source.Memory) (k : machine.Memory) → Running s p g h m k → (w : World)
      (made : Option (ℕ × List ℕ)) → GrowsBy made m.world w
      → ((b : ℕ) (ns : List ℕ) → made ≡ Some (b, ns) → SeesIn s g.sites b ns)
      → Running s p g h (source.with_world m w) (machine.with_world k w)
  made_here g h m k b w made grows sees = record {
    all = record {
      world = refl;
      sites = sites_grow_by made s p g.sites m.scopes k.lists m.world w grows sees b.all.sites;
      fibers = b.all.fibers;
      apart = b.all.apart;
    };
    site = b.site;
    free = b.free;
  }

  pub grown_here : (g : Ground) (h : Site) (m : source.Memory) (k : machine.Memory) → Running s p g h m k → (w : World)
      → Grows m.world w → Running s p g h (source.with_world m w) (machine.with_world k w)
  grown_here g h m k b w grows =
      record { all = grown g m k b.all m.place w grows; site = b.site; free = b.free }

  changed : (g : Ground) (h : Site) (m m' : source.Memory) (k k' : machine.Memory) → Running s p g h m k
      → k'.world ≡ m'.world → m'.world ≡ m.world → m'.fibers ≡ m.fibers → k'.fibers ≡ k.fibers
      → SitesAre s p g.sites m'.scopes k'.lists m.world → OnlyIn h.list k.lists k'.lists → Running s p g h m' k'
  changed g h m m' k k' b world same f f' sites o =
      let a = b.all.fibers in
      let others = fibers_kept g.sites k.lists k'.lists h.list o m.fibers.others k.fibers.others (omega (arith, b.free))
      a.others in
      let all : AllFibers g.sites g.fiber k'.lists m.fibers k.fibers = record {
        running = a.running;
        running_too = a.running_too;
        resumer = a.resumer;
        rooted = a.rooted;
        others = others;
      } in
      record {
        all = record {
          world = world;
          sites = subst (λ (w : World). SitesAre s p g.sites m'.scopes k'.lists w) (sym same) sites;
          fibers = subst (λ (q : fibers.Fibers Kept). AllFibers g.sites g.fiber k'.lists q k'.fibers) (sym f)
              (subst (λ (q : fibers.Fibers (List Level)). AllFibers g.sites g.fiber k'.lists m.fibers q) (sym f') all);
          apart = subst (λ (q : fibers.Fibers (List Level)). (n : ℕ) → uses n g.below + uses_in n q.others ≤ 1) (sym f')
              b.all.apart;
        };
        site = b.site;
        free = subst (λ (q : fibers.Fibers (List Level)). uses h.list g.below + uses_in h.list q.others ≡ 0) (sym f')
            b.free;
      }

  -- a register above the locals is written
  pub written_here : (g : Ground) (h : Site) (m : source.Memory) (k : machine.Memory) → Running s p g h m k → (r : ℕ)
      (v : Value) → h.first ≤ r → Running s p g h m (record k { lists = put k.lists h.list r (V v) })
  written_here g h m k b r v above =
      let i = b.all.sites.each h b.site in
      let o = put_only k.lists h.list r v in
      changed g h m m k (record k { lists = put k.lists h.list r (V v) }) b b.all.world refl refl refl
      (sites_changed s p g.sites m.scopes m.scopes k.lists (put k.lists h.list r (V v)) m.world h b.all.sites b.site
      (same_above h m.scopes k.lists r v i.static above i.same) refl (length_put k.lists h.list r (V v)) (λ n ne. refl) o
      (outers_put k.lists h.list r (V v)) refl) o

  -- a local of the body is assigned
  pub assigned_here : (g : Ground) (h : Site) (m : source.Memory) (k : machine.Memory) → Running s p g h m k → (x : Local)
      (v : Value) → m.place ≡ place_in h → Known h x
      → Running s p g h (with_variable m (x) v) (record k { lists = put k.lists h.list (register h x) (V v) })
  unfolding with_variable
  assigned_here g h m k b x v there known =
      let i = b.all.sites.each h b.site in
      let l' = put k.lists h.list (register h x) (V v) in
      let cs' = put_in m.scopes h.list (x) v in
      let o = put_only k.lists h.list (register h x) v in
      changed g h m (with_variable m (x) v) k (record k { lists = l' }) b b.all.world refl refl refl
      (subst (λ (cs : List Scope). SitesAre s p g.sites cs l' m.world) (sym (assigned h m x v there known i.same.mirrors))
      (sites_changed s p g.sites m.scopes cs' k.lists l' m.world h b.all.sites b.site
      (put_alike h m.scopes k.lists x v i.static i.same known (omega (arith, known.low, i.static.room)))
      (length-set m.scopes h.list _) (length_put k.lists h.list (register h x) (V v))
      (λ n ne. scope_other m.scopes h.list n (x) v ne) o
      (outers_put k.lists h.list (register h x) (V v)) (parents_put m.scopes h.list x v))) o

  -- a local of a body around is assigned, that has this site
  pub assigned_out : (g : Ground) (h d : Site) (m : source.Memory) (k : machine.Memory) → Running s p g h m k → (x : Local)
      (v : Value) → IsSite g.sites d → Known d x → scope_of m x ≡ d.list
      → Running s p g h (with_variable m x v) (record k { lists = put k.lists d.list (register d x) (V v) })
  unfolding with_variable
  assigned_out g h d m k b x v site known found =
      let i = b.all.sites.each d site in
      let l' = put k.lists d.list (register d x) (V v) in
      let cs' = put_in m.scopes d.list x v in
      let a = b.all.fibers in
      let kept = low_kept g.sites k.lists d (register d x) v site i.same.present known.low in
      let sites = sites_changed s p g.sites m.scopes cs' k.lists l' m.world d b.all.sites site
      (put_alike d m.scopes k.lists x v i.static i.same known (omega (arith, known.low, i.static.room)))
      (length-set m.scopes d.list _) (length_put k.lists d.list (register d x) (V v))
      (λ n ne. scope_other m.scopes d.list n x v ne) (put_only k.lists d.list (register d x) v)
      (outers_put k.lists d.list (register d x) (V v)) (parents_put m.scopes d.list x v) in
      record {
        all = record {
          world = b.all.world;
          sites = subst (λ (n : ℕ). SitesAre s p g.sites (put_in m.scopes n x v) l' m.world) (sym found) sites;
          fibers = record {
            running = a.running;
            running_too = a.running_too;
            resumer = a.resumer;
            rooted = a.rooted;
            others = fibers_by g.sites k.lists l' (λ n. Unit {0}) (λ q is u r. kept q is r) m.fibers.others k.fibers.others
                (any_in k.fibers.others) a.others;
          };
          apart = b.all.apart;
        };
        site = b.site;
        free = b.free;
      }

  -- and what waits in the frame that runs
  pub frame_out : (g : Ground) (h d : Site) (m : source.Memory) (k : machine.Memory) → Running s p g h m k → (x : Local)
      (v : Value) → IsSite g.sites d → Known d x → (ks : List Item) (n r : ℕ) (around : Option Loop)
      → InFrame g h k.lists ks n r around → InFrame g h (put k.lists d.list (register d x) (V v)) ks n r around
  frame_out g h d m k b x v site known ks n r around a =
      let i = b.all.sites.each d site in
      let l = k.lists in
      let l' = put l d.list (register d x) (V v) in
      let kept = low_kept g.sites l d (register d x) v site i.same.present known.low in
      inside_kept h l l' (λ c p is i t. Ends (bare h) g.fiber g.below (λ q js. Waits g.sites g.fiber l js q g.below) c p is i t)
      (λ c p is i t. Ends (bare h) g.fiber g.below (λ q js. Waits g.sites g.fiber l' js q g.below) c p is i t)
      (ends_kept (bare h) g.fiber g.below (λ q js. Waits g.sites g.fiber l js q g.below)
      (λ q js. Waits g.sites g.fiber l' js q g.below)
      (λ q js. waits_by g.sites l l' (λ n. Unit {0}) (λ q is u r. kept q is r) g.fiber js q g.below (any_only g.below)))
      ks n r around (kept h b.site r) a

  -- and in its registers above the locals
  pub slot_out : (g : Ground) (h d : Site) (m : source.Memory) (k : machine.Memory) → Running s p g h m k → (x : Local)
      (v : Value) → IsSite g.sites d → Known d x → (r : ℕ) → h.first ≤ r
      → slot_at (put k.lists d.list (register d x) (V v)) h.list r ≡ slot_at k.lists h.list r
  slot_out g h d m k b x v site known r above =
      let i = b.all.sites.each d site in
      (low_kept g.sites k.lists d (register d x) v site i.same.present known.low h b.site (r + 1)).same r above
      (omega arith)

  -- The frame that runs begins to wait, and one that waits runs again.

  pub below_running : (g : Ground) (h : Site) (m : source.Memory) (k : machine.Memory) → Running s p g h m k
      → (f : Frame) → f.list ≡ h.list → Both s p (over_levels g (frame f ∷ g.below)) m k
  below_running g h m k b f e =
      record { world = b.all.world; sites = b.all.sites; fibers = b.all.fibers; apart = apart }
    where
      free : uses f.list g.below + uses_in f.list k.fibers.others ≡ 0
      free = subst (λ (n : ℕ). uses n g.below + uses_in n k.fibers.others ≡ 0) (sym e) b.free

      at : (n : ℕ) (t : Bool) → nat_eq n f.list ≡ t
          → (if t then 1 else 0) + uses n g.below + uses_in n k.fibers.others ≤ 1
      at n true q =
          let same : n ≡ f.list = eqb-true n f.list q in
          let none : uses n g.below + uses_in n k.fibers.others ≡ 0 =
          subst (λ (i : ℕ). uses i g.below + uses_in i k.fibers.others ≡ 0) (sym same) free in
          omega (arith, none)
      at n false q = omega (arith, b.all.apart n)

      apart : (n : ℕ) → uses n (frame f ∷ g.below) + uses_in n k.fibers.others ≤ 1
      apart n = at n (nat_eq n f.list) refl

  pub runs_again : (g : Ground) (h : Site) (m : source.Memory) (k : machine.Memory) (f : Frame) (ls : List Level)
      → f.list ≡ h.list → IsSite g.sites h → Both s p (over_levels g (frame f ∷ ls)) m k
      → Running s p (over_levels g ls) h m k
  runs_again g h m k f ls e site b = record {
    all = record { world = b.world; sites = b.sites; fibers = b.fibers; apart = λ n. omega (arith, b.apart n) };
    site = site;
    free = at (nat_eq h.list f.list) refl (b.apart h.list);
  }
    where
      at : (t : Bool) → nat_eq h.list f.list ≡ t
          → (if t then 1 else 0) + uses h.list ls + uses_in h.list k.fibers.others ≤ 1
          → uses h.list ls + uses_in h.list k.fibers.others ≡ 0
      at true q le = omega (arith, le)
      at false q le = absurd (eqb-false h.list f.list q (sym e))

  -- the levels below another one
  pub without_top : (g : Ground) (m : source.Memory) (k : machine.Memory) (f : Frame) (ls : List Level)
      → Both s p (over_levels g (frame f ∷ ls)) m k → Both s p (over_levels g ls) m k
  without_top g m k f ls b =
      record { world = b.world; sites = b.sites; fibers = b.fibers; apart = λ n. omega (arith, b.apart n) }
