-- `join` of an Array.
use Rattle.std.proofs.Common.{◌≡◌, ℕ, zero, suc, ◌<◌, ◌≤◌, ◌+◌, ◌^◌, refl, sym, ap, subst, ◌∙◌, List, [], ◌∷◌, ◌++◌, length, drop, arith, append_assoc, append-nil, lt-ltb}
use Rattle.std.specs.Prelude.{codes, nat_lt, Bool, true, false, if◌then◌else◌, Option, Some, None}
use Rattle.std.proofs.lemmas.Bool.Decides.{nat_tests}
use Rattle.rb_value.specs.declared.value.Value.{Value}
use Rattle.rb_value.specs.declared.value.ObjId.{ObjId}
use Rattle.rb_value.specs.declared.value.SymId.{SymId}
use Rattle.rb_value.specs.declared.core_class.CoreClass.TheVariants as class
use Rattle.def_calls.specs.Views.{an_array, kind_in, string_of}
use Rattle.core_calls.specs.Flat.{flattened}
use Rattle.core_calls.specs.declared.flattening.Empty.TheVariants.{Stays}
use Rattle.def_core.specs.Parts.{elements_at}
use Rattle.rb_store.specs.Held.{Held, one_more}
use Rattle.def_plans.specs.Plan.{Planned, gives}
use Rattle.iter_comparing.specs.declared.joining.Joining.{Joining}
use Rattle.iter_comparing.specs.declared.questions.Question.TheVariants.{Ends, Asks as AsksFor}
use Rattle.iter_comparing.specs.declared.row.ComparingRow.TheVariants as comparing_row
use Rattle.iter_comparing.specs.declared.state.Work.{Work}
use Rattle.iter_comparing.specs.declared.state.Work.TheVariants as work
use Rattle.iter_comparing.specs.Asking.{Begins, args_of, asked_as, hear, is_known, question}
use Rattle.iter_comparing.specs.Questions.{Asked}
use Rattle.iter_comparing.specs.Rows as comparing
use Rattle.iter_comparing.specs.Stage as over_values
use Rattle.iter_comparing.specs.Texts as texts
use Rattle.iter_items.specs.declared.row.ItemsRow.TheVariants as items_row
use Rattle.run_rows.specs.declared.row.StarRow.TheVariants as row
use Rattle.items_laws.specs.Run.{Turn, Gives, Runs}
use Rattle.items_laws.specs.Asked.{Replies, symbol, with_symbol}
use Rattle.items_laws.specs.Written.{IsJoined, IsText, Joins, between, itself, marked, none_left, one_asked}
use Rattle.items_laws.proofs.Readers.{not_ends}
use Rattle.items_laws.proofs.Sent.{first_of, lifted}
use Rattle.items_laws.proofs.Small.{none_some}
use Rattle.items_laws.proofs.Working.{Course, at_end, last_reply, one_reply, courses}
use Rattle.items_laws.proofs.Wrote.{no_text, text_given, text_reply}

-- these pieces are left
pub record Left (w : Joining) (ps : List Value) : Type 0 where
  pub there : drop w.place w.pieces ≡ ps
  pub size : length w.pieces ≡ w.place + length ps
  pub less : length w.pieces < 2 ^ 64

behind : (n : ℕ) (xs : List Value) (p : Value) (ps : List Value) → drop n xs ≡ p ∷ ps → drop (suc n) xs ≡ ps
behind zero [] p ps e = absurd (cc)
behind zero (x ∷ xs) p ps e = cc
behind (suc n) [] p ps e = absurd (cc)
behind (suc n) (x ∷ xs) p ps e = behind n xs p ps e

next_place : (n k m : ℕ) → m ≡ n + suc k → m < 2 ^ 64 → one_more n ≡ suc n
next_place n k m size less = omega (arith, size, less)

one_fewer : (n k m : ℕ) → m ≡ n + suc k → m ≡ suc n + k
one_fewer n k m size = omega (arith, size)

pub left_behind : (w : Joining) (p : Value) (ps : List Value) (bytes : List ℕ) → Left w (p ∷ ps)
    → Left (texts.passed (texts.with_text w bytes)) ps
left_behind w p ps bytes left =
    let e = next_place w.place (length ps) (length w.pieces) left.size left.less in
    record {
      there = ap (λ (n : ℕ). drop n w.pieces) e ∙ behind w.place w.pieces p ps left.there;
      size = one_fewer w.place (length ps) (length w.pieces) left.size
          ∙ ap (λ (n : ℕ). n + length ps) (sym e);
      less = left.less;
    }

-- whether a separator follows

abbrev follows : List Value → Bool
follows [] = false
follows (p ∷ ps) = true

is_last : (n m : ℕ) → m ≡ n + suc 0 → m < 2 ^ 64 → nat_lt (one_more n) m ≡ false
is_last n m size less = ap (λ (k : ℕ). nat_lt k m) (next_place n 0 m size less) ∙ not_less (suc n) m (omega (arith, size))
  where
    not_less : (k m : ℕ) → m ≤ k → nat_lt k m ≡ false
    not_less k m most = grind (arith, nat_tests, most)

has_more : (n k m : ℕ) → m ≡ n + suc (suc k) → m < 2 ^ 64 → nat_lt (one_more n) m ≡ true
has_more n k m size less =
    ap (λ (j : ℕ). nat_lt j m) (next_place n (suc k) m size less) ∙ lt-ltb (suc n) m (omega (arith, size))

separates : (w : Joining) (p : Value) (ps : List Value) → Left w (p ∷ ps)
    → nat_lt (one_more w.place) (length w.pieces) ≡ follows ps
separates w p [] left = is_last w.place (length w.pieces) left.size left.less
separates w p (q ∷ ps) left = has_more w.place (length ps) (length w.pieces) left.size left.less

-- the text with what comes of the others
joined_on : (text bytes separator : List ℕ) (ps : List Value) (ts : List (List ℕ)) → length ts ≡ length ps
    → (if follows ps then (text ++ bytes) ++ separator else text ++ bytes) ++ between separator separator ts
    ≡ text ++ between separator separator (bytes ∷ ts)
joined_on text bytes separator [] [] same = append_assoc text bytes []
joined_on text bytes separator [] (t ∷ ts) same = absurd (cc)
joined_on text bytes separator (p ∷ ps) [] same = absurd (cc)
joined_on text bytes separator (p ∷ ps) (t ∷ ts) same =
    append_assoc (text ++ bytes) separator (t ++ marked separator separator ts)
    ∙ append_assoc text bytes (separator ++ (t ++ marked separator separator ts))

text_on : (w : Joining) (p : Value) (ps : List Value) (bytes : List ℕ) (ts : List (List ℕ)) → Left w (p ∷ ps)
    → length ts ≡ length ps
    → (texts.passed (texts.with_text w bytes)).text ++ between w.separator w.separator ts
    ≡ w.text ++ between w.separator w.separator (bytes ∷ ts)
text_on w p ps bytes ts left same =
    ap (λ (c : Bool). (if c then (w.text ++ bytes) ++ w.separator else w.text ++ bytes)
    ++ between w.separator w.separator ts) (separates w p ps left)
    ∙ joined_on w.text bytes w.separator ps ts same

-- What comes of the pieces that are left.
record Joined (name : SymId) (held : Held) (w : Joining) (ps : List Value) (ts : List Turn) (r : Value) (after : Held)
    : Type 0 where
  parts : List (List ℕ)
  last : Held
  joins : Joins name held ps ts parts last
  as_many : length parts ≡ length ps
  made : IsText last (w.text ++ between w.separator w.separator parts) r after

with_own : (name : SymId) (held : Held) (w : Joining) (p : Value) (bytes : List ℕ) (ps : List Value) (ts : List Turn)
    (r : Value) (after : Held) → Left w (p ∷ ps) → texts.own_text held.store p ≡ Some bytes
    → Joined name held (texts.passed (texts.with_text w bytes)) ps ts r after → Joined name held w (p ∷ ps) ts r after
with_own name held w p bytes ps ts r after left own more = record {
  parts = bytes ∷ more.parts;
  last = more.last;
  joins = itself held more.last p bytes ps ts more.parts own more.joins;
  as_many = ap suc more.as_many;
  made = subst (λ (t : List ℕ). IsText more.last t r after) (text_on w p ps bytes more.parts left more.as_many) more.made;
}

with_reply : (name : SymId) (held k : Held) (w : Joining) (p a : Value) (ps : List Value) (us ts : List Turn) (r : Value)
    (after : Held) → Left w (p ∷ ps) → texts.own_text held.store p ≡ None → Replies false name held p [] us a k
    → Joined name k (texts.passed (texts.with_text w (texts.bytes_of k.store a))) ps ts r after
    → Joined name held w (p ∷ ps) (us ++ ts) r after
with_reply name held k w p a ps us ts r after left own replies more =
    let bytes = texts.bytes_of k.store a in
    record {
      parts = bytes ∷ more.parts;
      last = more.last;
      joins = one_asked held k more.last p a ps us ts more.parts own replies more.joins;
      as_many = ap suc more.as_many;
      made = subst (λ (t : List ℕ). IsText more.last t r after) (text_on w p ps bytes more.parts left more.as_many)
          more.made;
    }

-- What the work asks with these pieces left.

abbrev pub asking : Held → Joining → List Value → Asked Work
asking held w ps = asked_as work.Joins (texts.joined_from held w ps)

abbrev pub asking_by : Held → Joining → Value → List Value → Option (List ℕ) → Asked Work
asking_by held w p ps o = asked_as work.Joins (texts.joined_by held w (texts.asks_by p o)
    (texts.joined_from held (texts.pieced_by w o) ps))

pub own_is : (held : Held) (w : Joining) (p : Value) (ps : List Value) (o : Option (List ℕ)) → texts.own_text held.store p ≡ o
    → asking held w (p ∷ ps) ≡ asking_by held w p ps o
own_is held w p ps o own = ap (λ (x : Option (List ℕ)). asking_by held w p ps x) own

-- the end

abbrev EndsSo : SymId → Held → List Value → Type 0
EndsSo name held ps = (w : Joining) (u : Work) (r : Value) → Left w ps → question held u ≡ asking held w ps
    → (question held u).question ≡ Ends r → Joined name held w ps [] r (question held u).held

end_by : (name : SymId) (held : Held) (p : Value) (ps : List Value) → EndsSo name held ps → (o : Option (List ℕ))
    → texts.own_text held.store p ≡ o → EndsSo name held (p ∷ ps)
end_by name held p ps rest None own = λ w u r left seen is.
    absurd (not_ends p r None (sym (ap (λ (q : Asked Work). q.question) (seen ∙ own_is held w p ps None own)) ∙ is))
end_by name held p ps rest (Some bytes) own = λ w u r left seen is.
    with_own name held w p bytes ps [] r (question held u).held left own
    (rest (texts.passed (texts.with_text w bytes)) u r (left_behind w p ps bytes left)
    (seen ∙ own_is held w p ps (Some bytes) own) is)

joined_end : (name : SymId) (held : Held) (ps : List Value) → EndsSo name held ps
joined_end name held [] = λ w u r left seen is. record {
  parts = [];
  last = held;
  joins = none_left held;
  as_many = refl;
  made = subst (λ (t : List ℕ). IsText held t r (question held u).held) (sym (append-nil w.text))
      (subst (λ (q : Asked Work). IsText held w.text r q.held) (sym seen)
      (text_given held (record w { text = [] }) w.text r (texts.is_too_long w.text) refl
      (sym (ap (λ (q : Asked Work). q.question) seen) ∙ is)));
}
joined_end name held (p ∷ ps) =
    end_by name held p ps (joined_end name held ps) (texts.own_text held.store p) refl

-- a reply

abbrev GoesSo : SymId → Held → Held → Work → Value → List Turn → Value → Held → List Value → Type 0
GoesSo name held k u a ts r after ps = (w : Joining) (y : Value) (arg : Option Value) (us : List Turn) → Left w ps
    → question held u ≡ asking held w ps → (question held u).question ≡ AsksFor y arg
    → Replies (is_known (question held u).work y arg) name (question held u).held y (args_of arg) us a k
    → Joined name held w ps (us ++ ts) r after

abbrev Further : SymId → Held → Held → Work → Value → List Turn → Value → Held → Type 0
Further name held k u a ts r after = (w : Joining) (ps : List Value)
    → (hear k.store (question held u).work a).work ≡ work.Joins w → Left w ps → Joined name k w ps ts r after

more_by : (name : SymId) (held k : Held) (u : Work) (a : Value) (ts : List Turn) (r : Value) (after : Held)
    → Further name held k u a ts r after → (p : Value) (ps : List Value) → GoesSo name held k u a ts r after ps
    → (o : Option (List ℕ)) → texts.own_text held.store p ≡ o → GoesSo name held k u a ts r after (p ∷ ps)
more_by name held k u a ts r after further p ps rest None own = λ w y arg us left seen is replies.
    let shown = seen ∙ own_is held w p ps None own in
    let bytes = texts.bytes_of k.store a in
    with_reply name held k w p a ps us ts r after left own
    (text_reply name held k u (work.Joins w) p y a arg us shown is replies)
    (further (texts.passed (texts.with_text w bytes)) ps
    (ap (λ (q : Asked Work). (hear k.store q.work a).work) shown) (left_behind w p ps bytes left))
more_by name held k u a ts r after further p ps rest (Some bytes) own = λ w y arg us left seen is replies.
    with_own name held w p bytes ps (us ++ ts) r after left own
    (rest (texts.passed (texts.with_text w bytes)) y arg us (left_behind w p ps bytes left)
    (seen ∙ own_is held w p ps (Some bytes) own) is replies)

joined_more : (name : SymId) (held k : Held) (u : Work) (a : Value) (ts : List Turn) (r : Value) (after : Held)
    → Further name held k u a ts r after → (ps : List Value) → GoesSo name held k u a ts r after ps
joined_more name held k u a ts r after further [] = λ w y arg us left seen is replies.
    absurd (no_text held (record w { text = [] }) w.text y arg (texts.is_too_long w.text) refl
    (sym (ap (λ (q : Asked Work). q.question) seen) ∙ is))
joined_more name held k u a ts r after further (p ∷ ps) = more_by name held k u a ts r after further p ps
    (joined_more name held k u a ts r after further ps) (texts.own_text held.store p) refl

goes_on : (held k : Held) (w : Joining) (u : Work) (a r : Value) → u ≡ work.Joins w
    → (hear k.store (question held u).work a).ends ≡ Some r → ⊥
goes_on held k w u a r same ends =
    none_some r (ap (λ (x : Work). (hear k.store (question held x).work a).ends) (sym same) ∙ ends)

pub asks_left : (held : Held) (w : Joining) (ps : List Value) (u : Work) → u ≡ work.Joins w → Left w ps
    → question held u ≡ asking held w ps
asks_left held w ps u same left =
    ap (λ (x : Work). question held x) same ∙ ap (λ (l : List Value). asking held w l) left.there

joined : (name : SymId) (held : Held) (w : Joining) (ps : List Value) (u : Work) (ts : List Turn) (r : Value) (after : Held)
    → u ≡ work.Joins w → Left w ps → Course name held u ts r after → Joined name held w ps ts r after
joined name held w ps u ts r after same left (at_end h x y is) =
    joined_end name h ps w x y left (asks_left h w ps x same left) is
joined name held w ps u ts r after same left (last_reply h k x y a z arg us is replies ends) =
    absurd (goes_on h k w x a z same ends)
joined name held w ps u ts r after same left (one_reply h k l x y a z arg us vs is replies ends rest) =
    joined_more name h k x a vs z l
    (λ v qs e further. joined name k v qs (hear k.store (question h x).work a).work vs z l e further rest) ps w y arg us left
    (asks_left h w ps x same left) is replies

-- From the first place on.

pub none_before : (n : ℕ) → n ≡ 0 + n
none_before n = omega arith

joined_all : (held after : Held) (pieces : List Value) (separator : List ℕ) (ts : List Turn) (v : Value)
    (p : Planned over_values.Stage) → length pieces < 2 ^ 64 → Begins held (codes "to_s") (comparing.joining pieces separator) p
    → Runs (lifted p) ts (gives after v) → IsJoined (codes "to_s") held pieces separator ts v after
joined_all held after pieces separator ts v p less begins runs =
    let name = symbol (codes "to_s") held in
    let begun = with_symbol (codes "to_s") held in
    let w : Joining = record { pieces = pieces; place = 0; text = []; separator = separator } in
    let k = joined name begun w pieces (work.Joins w) ts v after refl (record { there = refl; size = none_before (length pieces); less = less })
    (courses name ts v after begun (work.Joins w) p begins runs) in
    record { texts = k.parts; last = k.last; joins = k.joins; made = k.made }

pub joined_alone : (held after : Held) (recv v : Value) (a : ObjId) (pieces : List Value) (block : Option ObjId)
    (ts : List Turn) → an_array held.store.objects recv ≡ Some a
    → flattened Stays held.store (elements_at held.store.objects a) ≡ Some pieces → length pieces < 2 ^ 64
    → Gives (row.Items (items_row.Compares comparing_row.ArrayJoin)) held recv [] block ts v after
    → IsJoined (codes "to_s") held pieces [] ts v after
joined_alone held after recv v a pieces block ts array flat less run =
    let f = first_of comparing_row.ArrayJoin held recv [] block ts v after run in
    let of_array = subst (λ (o : Option ObjId). comparing.Of held class.Array recv o
    (λ x. comparing.ForArray comparing_row.ArrayJoin held x [] f.first) f.first) array f.starts in
    let begins = subst (λ (o : Option (List Value)). comparing.JoinsAll held o [] f.first) flat of_array in
    joined_all held after pieces [] ts v f.first less begins f.runs

pub joined_with : (held after : Held) (recv y v : Value) (a : ObjId) (pieces : List Value) (separator : List ℕ)
    (block : Option ObjId) (ts : List Turn) → an_array held.store.objects recv ≡ Some a
    → string_of (kind_in held.store.objects y) ≡ Some separator
    → flattened Stays held.store (elements_at held.store.objects a) ≡ Some pieces → length pieces < 2 ^ 64
    → Gives (row.Items (items_row.Compares comparing_row.ArrayJoin)) held recv (y ∷ []) block ts v after
    → IsJoined (codes "to_s") held pieces separator ts v after
joined_with held after recv y v a pieces separator block ts array text flat less run =
    let f = first_of comparing_row.ArrayJoin held recv (y ∷ []) block ts v after run in
    let of_array = subst (λ (o : Option ObjId). comparing.Of held class.Array recv o
    (λ x. comparing.ForArray comparing_row.ArrayJoin held x (y ∷ []) f.first) f.first) array f.starts in
    let with_text = subst (λ (o : Option (List ℕ)). comparing.JoinsWith held a y o f.first) text of_array in
    let begins = subst (λ (o : Option (List Value)). comparing.JoinsAll held o separator f.first) flat with_text in
    joined_all held after pieces separator ts v f.first less begins f.runs
