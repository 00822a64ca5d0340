-- What stays where a body is entered: a scope and a list of registers are added, and their site.
use Rattle.std.proofs.Common.{◌≡◌, ℕ, zero, suc, ◌+◌, ◌<◌, ◌≤◌, List, [], ◌∷◌, ◌++◌, refl, sym, ap, ◌∙◌, subst, arith, length, length-append, get_or, Bool, true, false, ⊎_elim}
use Rattle.std.specs.Prelude.{nat_eq, if◌then◌else◌, Option, Some, None, unwrap_or, slice_get}
use Rattle.std.proofs.lemmas.Bool.{cases_lt, eqb-true}
use Rattle.std.proofs.lemmas.List.{map-append, length-map, get_or_append_left, get_or_push}
use Rattle.rb_value.specs.declared.value.Value.TheVariants.{Nil}
use Rattle.rb_value.specs.declared.exit.Slot.TheVariants.{V}
use Rattle.rb_value.specs.Slot.{read}
use Rattle.rite_code.specs.Code.{Program}
use Rattle.gen_forms.specs.declared.context.Loop.{Loop}
use Rattle.def_calls.specs.World.{World}
use Rattle.def_calls.specs.Fibers as fibers
use Rattle.def_eval.specs.Source.{Source}
use Rattle.def_eval.specs.Configuration as source
use Rattle.def_eval.specs.Configuration.{Place, Scope, stop_of, Item, part, activation, iteration, ensuring, Kept}
use Rattle.def_eval.specs.Scopes.{no_scope, value_in, scope_at}
use Rattle.def_eval.specs.Entering.{first_of}
use Rattle.def_core.specs.Sound.{OptionIs}
use Rattle.scope_resolver.specs.Layout.{Scopes}
use Rattle.step_laws.specs.Around.{further_slots}
use Rattle.def_machine.specs.State as machine
use Rattle.def_machine.specs.State.{Registers, no_registers, Frame, Level, frame, list_at, slot_at}
use Rattle.scope_laws.specs.Numbers.{parents}
use Rattle.step_laws.specs.Site.{Site, guarded_by, bare, register}
use Rattle.step_laws.specs.Calm.{Grows}
use Rattle.step_laws.specs.Relation.{Inside, Ends, Waits, Same, Mirrors, SiteIs, Linked, SeesIn, SitesAre, FibersAre, AllFibers, uses, uses_in, Ground, over_levels, Both, Running}
use Rattle.step_laws.proofs.Registers.{Keeps, inside_kept}
use Rattle.step_laws.proofs.Bared.{site_of}
use Rattle.step_laws.proofs.Outside.{outside_any}
use Rattle.step_laws.proofs.Untouched.{ends_kept, leaves_end, sites_grow}

-- Elements that are there stay.

list_before : (l : List Registers) (r : Registers) (n : ℕ) → n < length l → list_at (l ++ r ∷ []) n ≡ list_at l n
list_before l r n lt = get_or_append_left l (r ∷ []) no_registers n lt

scope_before : (cs : List Scope) (c : Scope) (n : ℕ) → n < length cs → scope_at (cs ++ c ∷ []) n ≡ scope_at cs n
scope_before cs c n lt = get_or_append_left cs (c ∷ []) no_scope n lt

there_before : (hs ds : List Site) (n : ℕ) (h : Site) → slice_get hs n ≡ Some h → slice_get (hs ++ ds) n ≡ Some h
there_before [] ds n h e = absurd (cc e)
there_before (d ∷ hs) ds zero h e = e
there_before (d ∷ hs) ds (suc n) h e = there_before hs ds n h e

low_enough : (hs : List Site) (n : ℕ) (h : Site) → slice_get hs n ≡ Some h → n < length hs
low_enough [] n h e = absurd (cc e)
low_enough (d ∷ hs) zero h e = omega arith
low_enough (d ∷ hs) (suc n) h e = let lt = low_enough hs n h e in omega (arith, lt)

-- one that is there now was there, or is the new one
before_or_new : (hs : List Site) (d : Site) (n : ℕ) (h : Site) → slice_get (hs ++ d ∷ []) n ≡ Some h → n < length hs
    → slice_get hs n ≡ Some h
before_or_new [] d n h e lt = absurd (omega (arith, lt))
before_or_new (c ∷ hs) d zero h e lt = e
before_or_new (c ∷ hs) d (suc n) h e lt = before_or_new hs d n h e (omega (arith, lt))

the_new : (hs : List Site) (d : Site) (n : ℕ) (h : Site) → slice_get (hs ++ d ∷ []) n ≡ Some h → length hs ≤ n
    → h ≡ d
the_new [] d zero h e le = ap (λ (o : Option Site). unwrap_or o d) (sym e)
the_new [] d (suc n) h e le = absurd (cc e)
the_new (c ∷ hs) d zero h e le = absurd (omega (arith, le))
the_new (c ∷ hs) d (suc n) h e le = the_new hs d n h e (omega (arith, le))

pub last_site : (hs : List Site) (d : Site) → slice_get (hs ++ d ∷ []) (length hs) ≡ Some d
last_site [] d = refl
last_site (c ∷ hs) d = last_site hs d

-- What waits.

-- what the end of the items tells
pub inside_end : (h : Site) (l : List Registers) (AtEnd : ℕ → Place → List Item → ℕ → ℕ → Type 0) (C : Type 0)
    → ((a : ℕ) (p : Place) (is : List Item) (i t : ℕ) → AtEnd a p is i t → C) → (ks : List Item) (n r : ℕ)
    (around : Option Loop) → Inside h l AtEnd ks n r around → C
inside_end h l E C to [] n r around a = absurd a
inside_end h l E C to (part q ∷ ks) n r around a =
    outside_any (stop_of q) h.guards (λ gs. Inside (guarded_by h gs) l E ks a.end a.low a.outer) C
    (λ gs x. inside_end (guarded_by h gs) l E C to ks a.end a.low a.outer x) a.next
inside_end h l E C to (activation c q ∷ ks) n r around a = to c q ks n r a.0
inside_end h l E C to (iteration c it q ∷ ks) n r around a = absurd a
inside_end h l E C to (ensuring o ∷ ks) n r around a = absurd a

keeps_before : (h : Site) (l : List Registers) (r : Registers) (t : ℕ) → h.list < length l → Keeps h l (l ++ r ∷ []) t
unfolding slot_at
keeps_before h l r t lt = record {
  same = λ i above below. ap (λ (g : Registers). get_or g.slots i (V Nil)) (list_before l r h.list lt);
}

pub waits_more : (hs : List Site) (d : Site) (fiber : fibers.Name) (l : List Registers) (r : Registers)
    → length l ≡ length hs → (ks : List Item) (place : Place) (ls : List Level) → Waits hs fiber l ks place ls
    → Waits (hs ++ d ∷ []) fiber (l ++ r ∷ []) ks place ls
waits_more hs d fiber l r long ks place [] w = w
waits_more hs d fiber l r long ks place (frame f ∷ ls) w =
    let lt = low_enough hs w.h.list (bare w.h) w.site in
    record {
      h = w.h;
      x = w.x;
      at = w.at;
      n = w.n;
      is = w.is;
      site = there_before hs (d ∷ []) w.h.list (bare w.h) w.site;
      after = w.after;
      room = w.room;
      there = w.there;
      guarded = w.guarded;
      around = w.around;
      next = inside_kept w.h l (l ++ r ∷ [])
          (λ b p is i t. Ends (bare w.h) fiber ls (λ q js. Waits hs fiber l js q ls) b p is i t)
          (λ b p is i t. Ends (bare w.h) fiber ls (λ q js. Waits (hs ++ d ∷ []) fiber (l ++ r ∷ []) js q ls) b p is i t)
          (ends_kept (bare w.h) fiber ls (λ q js. Waits hs fiber l js q ls)
          (λ q js. Waits (hs ++ d ∷ []) fiber (l ++ r ∷ []) js q ls)
          (λ q js. waits_more hs d fiber l r long js q ls)) ks w.n w.x.waits w.around
          (keeps_before w.h l r w.x.waits (omega (arith, lt, long))) w.next;
    }
waits_more hs d fiber l r long ks place (machine.iteration a it v ∷ ls) w = record {
  others = w.others;
  back = w.back;
  is = w.is;
  next = waits_more hs d fiber l r long w.others w.back ls w.next;
}

fibers_more : (hs : List Site) (d : Site) (l : List Registers) (r : Registers) → length l ≡ length hs
    → (fs : List (fibers.Fiber Kept)) (gs : List (fibers.Fiber (List Level))) → FibersAre hs l fs gs
    → FibersAre (hs ++ d ∷ []) (l ++ r ∷ []) fs gs
fibers_more hs d l r long [] [] a = a
fibers_more hs d l r long [] (g ∷ gs) a = absurd a
fibers_more hs d l r long (f ∷ fs) [] a = absurd a
fibers_more hs d l r long (f ∷ fs) (g ∷ gs) a =
    let i = a.0 in (
      record {
        name = i.name;
        wait = i.wait;
        resumer = i.resumer;
        rooted = i.rooted;
        some = i.some;
        waits = waits_more hs d f.name l r long f.kept.items f.kept.place g.kept i.waits;
      },
      fibers_more hs d l r long fs gs a.1,
    )

pub all_fibers_more : (hs : List Site) (d : Site) (name : fibers.Name) (l : List Registers) (r : Registers)
    → length l ≡ length hs → (fs : fibers.Fibers Kept) (gs : fibers.Fibers (List Level)) → AllFibers hs name l fs gs
    → AllFibers (hs ++ d ∷ []) name (l ++ r ∷ []) fs gs
all_fibers_more hs d name l r long fs gs a = record {
  running = a.running;
  running_too = a.running_too;
  resumer = a.resumer;
  rooted = a.rooted;
  others = fibers_more hs d l r long fs.others gs.others a.others;
}

-- No frame has the list of a new number.

pub unused : (hs : List Site) (fiber : fibers.Name) (l : List Registers) (n : ℕ) → length hs ≤ n → (ks : List Item)
    (place : Place) (ls : List Level) → Waits hs fiber l ks place ls → uses n ls ≡ 0
unused hs fiber l n le ks place [] w = refl
unused hs fiber l n le ks place (frame f ∷ ls) w = at (nat_eq n f.list) refl
    (inside_end w.h l (λ b p is i t. Ends (bare w.h) fiber ls (λ q js. Waits hs fiber l js q ls) b p is i t)
    (uses n ls ≡ 0) (λ b p is i t e. unused hs fiber l n le is p ls
    (leaves_end (bare w.h) fiber ls (λ q js. Waits hs fiber l js q ls) hs l (λ q js u. u) p is i t e.by)) ks w.n w.x.waits
    w.around w.next)
  where
    lt : w.h.list < length hs
    lt = low_enough hs w.h.list (bare w.h) w.site

    at : (b : Bool) → nat_eq n f.list ≡ b → uses n ls ≡ 0 → (if b then 1 else 0) + uses n ls ≡ 0
    at true e below =
        let same : n ≡ w.h.list = eqb-true n f.list e ∙ ap (λ (q : Frame). q.list) w.is in
        absurd (omega (arith, lt, same, le))
    at false e below = omega (arith, below)
unused hs fiber l n le ks place (machine.iteration a it v ∷ ls) w = unused hs fiber l n le w.others w.back ls w.next

unused_in : (hs : List Site) (l : List Registers) (n : ℕ) → length hs ≤ n → (fs : List (fibers.Fiber Kept))
    (gs : List (fibers.Fiber (List Level))) → FibersAre hs l fs gs → uses_in n gs ≡ 0
unused_in hs l n le [] [] a = refl
unused_in hs l n le [] (g ∷ gs) a = absurd a
unused_in hs l n le (f ∷ fs) [] a = absurd a
unused_in hs l n le (f ∷ fs) (g ∷ gs) a =
    let one = unused hs f.name l n le f.kept.items f.kept.place g.kept a.0.waits in
    let others = unused_in hs l n le fs gs a.1 in
    omega (arith, one, others)

-- Sites.

same_before : (h : Site) (cs : List Scope) (c : Scope) (l : List Registers) (r : Registers) → Same h cs l
    → Same h (cs ++ c ∷ []) (l ++ r ∷ [])
unfolding slot_at
same_before h cs c l r s =
    let scope = scope_before cs c h.list s.scope in
    let list = list_before l r h.list s.present in
    record {
      scope = omega (arith, s.scope, length-append cs (c ∷ []));
      mirrors = subst (Mirrors h) (sym scope) s.mirrors;
      present = omega (arith, s.present, length-append l (r ∷ []));
      long = ap (λ (g : Registers). length g.slots) list ∙ s.long;
      self = ap (λ (g : Registers). read (get_or g.slots 0 (V Nil))) list ∙ s.self;
      alike = λ x k. ap (λ (d : Scope). unwrap_or (value_in d.variables x) Nil) scope ∙ s.alike x k
          ∙ sym (ap (λ (g : Registers). read (get_or g.slots (register h x) (V Nil))) list);
    }

-- what is around the scopes stays, and around the new one is what is said
linked_more : (hs ds : List Site) (around : Scopes) (o : Option ℕ) → Linked hs around o → Linked (hs ++ ds) around o
linked_more hs ds around None x = x
linked_more hs ds around (Some n) x = (x.0, there_before hs ds x.0.list (bare x.0) x.1, x.2, x.3)

sees_more : (s : Source) (hs ds : List Site) (b : ℕ) (ns : List ℕ) → SeesIn s hs b ns → SeesIn s (hs ++ ds) b ns
sees_more s hs ds b ns x = (x.0, x.1, linked_more hs ds x.0 (first_of ns) x.2)

below_end : (hs : List Site) (around : Scopes) (o : Option ℕ) → Linked hs around o → OptionIs (λ n. n < length hs) o
below_end hs around None x = tt
below_end hs around (Some n) x = subst (λ (i : ℕ). i < length hs) x.2 (low_enough hs x.0.list (bare x.0) x.1)

parents_more : (cs : List Scope) (c : Scope) → parents (cs ++ c ∷ []) ≡ parents cs ++ c.parent ∷ []
parents_more cs c = map-append (λ (q : Scope). q.parent) cs (c ∷ [])

parent_before : (cs : List Scope) (c : Scope) (n : ℕ) → n < length cs
    → get_or (parents cs) n None ≡ get_or (parents (cs ++ c ∷ [])) n None
parent_before cs c n lt =
    sym (ap (λ (os : List (Option ℕ)). get_or os n None) (parents_more cs c)
    ∙ get_or_append_left (parents cs) (c.parent ∷ []) None n (omega (arith, lt, length-map cs (λ (q : Scope). q.parent))))

parent_new : (cs : List Scope) (c : Scope) (n : ℕ) → n ≡ length cs → c.parent ≡ get_or (parents (cs ++ c ∷ [])) n None
parent_new cs c n e =
    sym (ap (λ (os : List (Option ℕ)). get_or os n None) (parents_more cs c)
    ∙ get_or_push (parents cs) c.parent None n (length-map cs (λ (q : Scope). q.parent) ∙ sym e))

pub sites_more : (s : Source) (p : Program) (hs : List Site) (d : Site) (cs : List Scope) (c : Scope)
    (l : List Registers) (r : Registers) (w : World) → SitesAre s p hs cs l w → d.list ≡ length hs → r.outer ≡ c.parent
    → Linked hs (further_slots d.context.scopes) c.parent
    → SiteIs s p d (cs ++ c ∷ []) (l ++ r ∷ []) w → SitesAre s p (hs ++ d ∷ []) (cs ++ c ∷ []) (l ++ r ∷ []) w
sites_more s p hs d cs c l r w a e out link new = record {
  around = map-append (λ (q : Registers). q.outer) l (r ∷ [])
      ∙ ap (λ (os : List (Option ℕ)). os ++ r.outer ∷ []) a.around
      ∙ ap (λ (o : Option ℕ). parents cs ++ o ∷ []) out ∙ sym (map-append (λ (q : Scope). q.parent) cs (c ∷ []));
  scopes = omega (arith, a.scopes, length-append cs (c ∷ []), length-append hs (d ∷ []));
  lists = omega (arith, a.lists, length-append l (r ∷ []), length-append hs (d ∷ []));
  each = λ h is. ⊎_elim (λ lt. old h (a.each h (before_or_new hs d h.list (bare h) is lt)))
      (λ le. site_of s p h (cs ++ c ∷ []) (l ++ r ∷ []) w
      (subst (λ (q : Site). SiteIs s p q (cs ++ c ∷ []) (l ++ r ∷ []) w) (sym (the_new hs d h.list (bare h) is le)) new))
      (cases_lt h.list (length hs));
  linked = λ h is. ⊎_elim (λ lt. linked_before h lt (a.linked h (before_or_new hs d h.list (bare h) is lt)))
      (λ le. subst (λ (q : Site). Links q) (sym (the_new hs d h.list (bare h) is le)) linked_now)
      (cases_lt h.list (length hs));
  below = λ h is. ⊎_elim (λ lt. below_before h lt (a.below h (before_or_new hs d h.list (bare h) is lt)))
      (λ le. subst (λ (q : Site). Below q) (sym (the_new hs d h.list (bare h) is le)) below_now)
      (cases_lt h.list (length hs));
  procs = λ b ns has. sees_more s hs (d ∷ []) b ns (a.procs b ns has);
}
  where
    Links : Site → Type 0
    Links h = Linked (hs ++ d ∷ []) (further_slots h.context.scopes) (get_or (parents (cs ++ c ∷ [])) h.list None)

    Below : Site → Type 0
    Below h = OptionIs (λ n. n < h.list) (get_or (parents (cs ++ c ∷ [])) h.list None)

    linked_before : (h : Site) → h.list < length hs
        → Linked hs (further_slots h.context.scopes) (get_or (parents cs) h.list None) → Links h
    linked_before h lt x = subst (λ (o : Option ℕ). Linked (hs ++ d ∷ []) (further_slots h.context.scopes) o)
        (parent_before cs c h.list (omega (arith, lt, a.scopes)))
        (linked_more hs (d ∷ []) (further_slots h.context.scopes) (get_or (parents cs) h.list None) x)

    linked_now : Links d
    linked_now = subst (λ (o : Option ℕ). Linked (hs ++ d ∷ []) (further_slots d.context.scopes) o)
        (parent_new cs c d.list (e ∙ sym a.scopes)) (linked_more hs (d ∷ []) (further_slots d.context.scopes) c.parent link)

    below_before : (h : Site) → h.list < length hs → OptionIs (λ n. n < h.list) (get_or (parents cs) h.list None) → Below h
    below_before h lt x = subst (OptionIs (λ n. n < h.list)) (parent_before cs c h.list (omega (arith, lt, a.scopes))) x

    below_now : Below d
    below_now = subst (OptionIs (λ n. n < d.list)) (parent_new cs c d.list (e ∙ sym a.scopes))
        (subst (λ (i : ℕ). OptionIs (λ n. n < i) c.parent) (sym e)
        (below_end hs (further_slots d.context.scopes) c.parent link))

    old : (h : Site) → SiteIs s p h cs l w → SiteIs s p h (cs ++ c ∷ []) (l ++ r ∷ []) w
    old h i = record {
      source = i.source;
      program = i.program;
      static = i.static;
      same = same_before h cs c l r i.same;
      from_one = i.from_one;
      opened = i.opened;
      self = i.self;
      runs = i.runs;
      home = i.home;
    }

-- A body runs whose scope and list are new, above what waits for it.
pub opened : (s : Source) (p : Program) (g : Ground) (gs : List Level) (m : source.Memory) (k : machine.Memory) (d : Site)
    (c : Scope) (r : Registers) (place : Place) (w : World) (ks : List Item) (back : Place)
    → bare d ≡ d → Both s p (over_levels g gs) m k → Waits g.sites g.fiber k.lists ks back gs → d.list ≡ length g.sites
    → r.outer ≡ c.parent → Linked g.sites (further_slots d.context.scopes) c.parent
    → SiteIs s p d (m.scopes ++ c ∷ []) (k.lists ++ r ∷ []) w → Grows m.world w
    → Running s p (record { sites = g.sites ++ d ∷ []; fiber = g.fiber; below = gs }) d
    (record m { place = place; scopes = m.scopes ++ c ∷ []; world = w })
    (record k { lists = k.lists ++ r ∷ []; world = w })
opened s p g gs m k d c r place w ks back plain b waits e out link new grows = record {
  all = record {
    world = refl;
    sites = sites_more s p g.sites d m.scopes c k.lists r w
        (sites_grow s p g.sites m.scopes k.lists m.world w grows b.sites) e out link new;
    fibers = all_fibers_more g.sites d g.fiber k.lists r b.sites.lists m.fibers k.fibers b.fibers;
    apart = b.apart;
  };
  site = subst (λ (n : ℕ). slice_get (g.sites ++ d ∷ []) n ≡ Some d) (sym e) (last_site g.sites d) ∙ ap Some (sym plain);
  free = omega (
    arith,
    unused g.sites g.fiber k.lists d.list (omega (arith, e)) ks back gs waits,
    unused_in g.sites k.lists d.list (omega (arith, e)) m.fibers.others k.fibers.others b.fibers.others,
  );
}
