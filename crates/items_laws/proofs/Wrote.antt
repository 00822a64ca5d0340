-- `inspect` of an Array and of a Hash.
use Rattle.std.proofs.Common.{◌≡◌, ℕ, suc, ◌<◌, ◌+◌, ◌/◌, ◌%◌, ◌^◌, refl, sym, ap, subst, ◌∙◌, List, [], ◌∷◌, ◌++◌, length, arith, append_assoc}
use Rattle.std.specs.Prelude.{codes, option_map, slice_get, nat_eq, not, Bool, true, false, if◌then◌else◌, Option, Some, None}
use Rattle.std.proofs.lemmas.Bool.{eqb-true, eqb-false}
use Rattle.std.proofs.lemmas.Bool.Decides.{nat_tests}
use Rattle.rb_value.specs.declared.value.Value.{Value}
use Rattle.rb_value.specs.declared.value.Value.TheVariants.{Obj}
use Rattle.rb_value.specs.declared.value.ObjId.{ObjId}
use Rattle.rb_value.specs.declared.value.SymId.{SymId}
use Rattle.rb_value.specs.declared.hash.HashItem.{HashItem}
use Rattle.rb_value.specs.declared.kind.Kind.TheVariants as kind
use Rattle.rb_value.specs.declared.core_class.CoreClass.TheVariants as class
use Rattle.def_calls.specs.Views.{an_array, a_hash}
use Rattle.def_core.specs.declared.cause.Cause.{Cause}
use Rattle.def_core.specs.declared.cause.Cause.TheVariants as cause
use Rattle.def_core.specs.Parts.{elements_at}
use Rattle.def_core.specs.Store.{core, next_number}
use Rattle.heap.specs.Made.{with_new}
use Rattle.rb_store.specs.Held.{Held, one_more}
use Rattle.iter_comparing.specs.declared.questions.Question.{Question}
use Rattle.iter_comparing.specs.declared.questions.Question.TheVariants.{Ends, Fails, Asks as AsksFor}
use Rattle.iter_comparing.specs.declared.row.ComparingRow.TheVariants as comparing_row
use Rattle.iter_comparing.specs.declared.showing.Shown.{Shown}
use Rattle.iter_comparing.specs.declared.showing.Shown.TheVariants.{Elements, Pairs}
use Rattle.iter_comparing.specs.declared.showing.Showing.{Showing}
use Rattle.iter_comparing.specs.declared.state.Work.{Work}
use Rattle.iter_comparing.specs.declared.state.Work.TheVariants as work
use Rattle.iter_comparing.specs.Asking.{args_of, asked_as, hear, is_known, question}
use Rattle.iter_comparing.specs.Hashes.{items, pairs}
use Rattle.iter_comparing.specs.Questions.{Asked, show}
use Rattle.iter_comparing.specs.Rows as comparing
use Rattle.iter_comparing.specs.Texts as texts
use Rattle.iter_items.specs.declared.row.ItemsRow.TheVariants as items_row
use Rattle.run_rows.specs.declared.row.StarRow.TheVariants as row
use Rattle.items_laws.specs.Run.{Turn, Gives}
use Rattle.items_laws.specs.Asked.{Replies, symbol, with_symbol}
use Rattle.items_laws.specs.Compared.{element}
use Rattle.items_laws.specs.Written.{IsText, IsWritten, Writes, between, enclosed, key_or_value, marked, none_left, one_asked, part_of}
use Rattle.items_laws.proofs.Readers.{argument_same, not_ends, receiver_same}
use Rattle.items_laws.proofs.Found.{ends_same, no_question}
use Rattle.items_laws.proofs.Sent.{first_of}
use Rattle.items_laws.proofs.Small.{from_first, none_some}
use Rattle.items_laws.proofs.Working.{Course, at_end, last_reply, one_reply, courses}

-- A text that is given.

no_failure : (c : Cause) (r : Value) → Fails c ≡ Ends r → ⊥
no_failure c r e = cc

no_asking : (c : Cause) (y : Value) (arg : Option Value) → Fails c ≡ AsksFor y arg → ⊥
no_asking c y arg e = cc

abbrev question_by : Held → Bool → Question
question_by held c = if c then Fails cause.StringTooLong else Ends (Obj (next_number held.store))

pub text_given : {W : Type 0} (held : Held) (w : W) (bytes : List ℕ) (r : Value) (c : Bool) → texts.is_too_long bytes ≡ c
    → (texts.text_ends held w bytes).question ≡ Ends r → IsText held bytes r (texts.text_ends held w bytes).held
text_given held w bytes r true long is =
    absurd (no_failure cause.StringTooLong r (sym (ap (λ (c : Bool). question_by held c) long) ∙ is))
text_given held w bytes r false short is = record {
  short = short;
  value = sym (ends_same (Obj (next_number held.store)) r (sym (ap (λ (c : Bool). question_by held c) short) ∙ is));
  left = ap (λ (c : Bool). if c then held else with_new held (core class.String) (kind.String bytes)) short;
}

-- What a value replies that is asked for its text.
pub text_reply : (name : SymId) (held k : Held) (w v : Work) (x y a : Value) (arg : Option Value) (us : List Turn)
    → question held w ≡ record { question = show x; work = v; held = held } → (question held w).question ≡ AsksFor y arg
    → Replies (is_known (question held w).work y arg) name (question held w).held y (args_of arg) us a k
    → Replies false name held x [] us a k
text_reply name held k w v x y a arg us seen is replies =
    let same = sym (ap (λ (q : Asked Work). q.question) seen) ∙ is in
    let one = subst (λ (q : Asked Work). Replies (is_known q.work y arg) name q.held y (args_of arg) us a k) seen replies in
    let two = subst (λ (o : Option Value). Replies (is_known v y o) name held y (args_of o) us a k)
    (sym (argument_same x y None arg same)) one in
    subst (λ (u : Value). Replies false name held u [] us a k) (sym (receiver_same x y None arg same)) two

-- Which values are shown, and what stands before each.

abbrev pub item_of : Shown → Held → ℕ → Option Value
item_of (Elements a) = element a
item_of (Pairs ps) = part_of ps

abbrev pub before : Shown → ℕ → List ℕ
before (Elements a) n = if nat_eq n 0 then codes "[" else codes ", "
before (Pairs ps) n = if nat_eq (n % 2) 1 then codes "=>" else (if nat_eq n 0 then codes "{" else codes ", ")

abbrev with_before : List ℕ → Option Value → Option (Value × List ℕ)
with_before b None = None
with_before b (Some x) = Some (x, b)

part_element : (n : ℕ) (o : Option Value)
    → option_map (texts.before_element n) o ≡ with_before (if nat_eq n 0 then codes "[" else codes ", ") o
part_element n None = refl
part_element n (Some x) = refl

pair_by : (p : HashItem) (b : List ℕ) (c : Bool)
    → ◌≡◌ {A = Value × List ℕ} (if c then (p.value, codes "=>") else (p.shown, b))
    (if c then p.value else p.shown, if c then codes "=>" else b)
pair_by p b true = refl
pair_by p b false = refl

part_pair : (ps : List HashItem) (n : ℕ) (o : Option HashItem)
    → option_map (texts.before_part n) o ≡ with_before (before (Pairs ps) n) (option_map (key_or_value n) o)
part_pair ps n None = refl
part_pair ps n (Some p) = ap (λ (q : Value × List ℕ). Some q)
    (pair_by p (if nat_eq n 0 then codes "{" else codes ", ") (nat_eq (n % 2) 1))

part_is : (held : Held) (s : Shown) (n : ℕ) → texts.part held.store s n ≡ with_before (before s n) (item_of s held n)
part_is held (Elements a) n = part_element n (slice_get (elements_at held.store.objects a) n)
part_is held (Pairs ps) n = part_pair ps n (slice_get ps (n / 2))

-- The text so far, and what it comes to.

abbrev pub showing_at : Shown → ℕ → List ℕ → Showing
showing_at s n text = record { shown = s; place = n; text = text }

abbrev pub at : Shown → ℕ → List ℕ → Work
at s n text = work.Shows (showing_at s n text)

abbrev asking : Held → Shown → ℕ → List ℕ → Option Value → Asked Work
asking held s n text o = asked_as work.Shows (texts.shown_by held (showing_at s n text) (with_before (before s n) o))

pub question_is : (held : Held) (s : Shown) (n : ℕ) (text : List ℕ) (w : Work) (o : Option Value) → w ≡ at s n text
    → item_of s held n ≡ o → question held w ≡ asking held s n text o
question_is held s n text w o same there = ap (λ (u : Work). question held u) same
    ∙ ap (λ (p : Option (Value × List ℕ)). asked_as work.Shows (texts.shown_by held (showing_at s n text) p))
    (part_is held s n)
    ∙ ap (λ (p : Option Value). asking held s n text p) there

abbrev whole : Shown → ℕ → List (List ℕ) → List ℕ
whole s n [] = texts.last s n
whole s n (t ∷ ts) = before s n ++ (t ++ whole s (one_more n) ts)

record Wrote (s : Shown) (name : SymId) (held : Held) (n : ℕ) (text : List ℕ) (ts : List Turn) (r : Value) (after : Held)
    : Type 0 where
  parts : List (List ℕ)
  last : Held
  writes : Writes name (item_of s) held n ts parts last
  made : IsText last (text ++ whole s n parts) r after

wrote_end : (s : Shown) (name : SymId) (held : Held) (n : ℕ) (text : List ℕ) (w : Work) (r : Value) (o : Option Value)
    → w ≡ at s n text → item_of s held n ≡ o → (question held w).question ≡ Ends r
    → Wrote s name held n text [] r (question held w).held
wrote_end s name held n text w r None same there is =
    let seen = question_is held s n text w None same there in
    let bytes = text ++ texts.last s n in
    record {
      parts = [];
      last = held;
      writes = none_left held n there;
      made = subst (λ (q : Asked Work). IsText held bytes r q.held) (sym seen)
          (text_given held (showing_at s n []) bytes r (texts.is_too_long bytes) refl
          (sym (ap (λ (q : Asked Work). q.question) seen) ∙ is));
    }
wrote_end s name held n text w r (Some x) same there is =
    let seen = question_is held s n text w (Some x) same there in
    absurd (not_ends x r None (sym (ap (λ (q : Asked Work). q.question) seen) ∙ is))

-- no reply ends it
goes_on : (held k : Held) (s : Shown) (n : ℕ) (text : List ℕ) (w : Work) (a r : Value) → w ≡ at s n text
    → (hear k.store (question held w).work a).ends ≡ Some r → ⊥
goes_on held k s n text w a r same ends =
    none_some r (ap (λ (u : Work). (hear k.store (question held u).work a).ends) (sym same) ∙ ends)

pub no_text : {W : Type 0} (held : Held) (w : W) (bytes : List ℕ) (y : Value) (arg : Option Value) (c : Bool)
    → texts.is_too_long bytes ≡ c → (texts.text_ends held w bytes).question ≡ AsksFor y arg → ⊥
no_text held w bytes y arg true long is =
    no_asking cause.StringTooLong y arg (sym (ap (λ (c : Bool). question_by held c) long) ∙ is)
no_text held w bytes y arg false short is =
    no_question (Obj (next_number held.store)) y arg (sym (ap (λ (c : Bool). question_by held c) short) ∙ is)

wrote_more : (s : Shown) (name : SymId) (held k : Held) (n : ℕ) (text : List ℕ) (w : Work) (y a r : Value)
    (arg : Option Value) (us ts : List Turn) (after : Held) (o : Option Value) → w ≡ at s n text → item_of s held n ≡ o
    → (question held w).question ≡ AsksFor y arg
    → Replies (is_known (question held w).work y arg) name (question held w).held y (args_of arg) us a k
    → ((t : List ℕ) → (hear k.store (question held w).work a).work ≡ at s (one_more n) t
    → Wrote s name k (one_more n) t ts r after) → Wrote s name held n text (us ++ ts) r after
wrote_more s name held k n text w y a r arg us ts after None same there is replies rest =
    let seen = question_is held s n text w None same there in
    let bytes = text ++ texts.last s n in
    absurd (no_text held (showing_at s n []) bytes y arg (texts.is_too_long bytes) refl
    (sym (ap (λ (q : Asked Work). q.question) seen) ∙ is))
wrote_more s name held k n text w y a r arg us ts after (Some x) same there is replies rest =
    let seen = question_is held s n text w (Some x) same there in
    let bytes = texts.bytes_of k.store a in
    let so_far = text ++ before s n in
    let more = rest (so_far ++ bytes) (ap (λ (q : Asked Work). (hear k.store q.work a).work) seen) in
    let others = whole s (one_more n) more.parts in
    record {
      parts = bytes ∷ more.parts;
      last = more.last;
      writes = one_asked held k more.last n x a us ts more.parts there
          (text_reply name held k w (at s n so_far) x y a arg us seen is replies) more.writes;
      made = subst (λ (t : List ℕ). IsText more.last t r after)
          (append_assoc so_far bytes others ∙ append_assoc text (before s n) (bytes ++ others)) more.made;
    }

wrote : (s : Shown) (name : SymId) (held : Held) (n : ℕ) (text : List ℕ) (w : Work) (ts : List Turn) (r : Value)
    (after : Held) → w ≡ at s n text → Course name held w ts r after → Wrote s name held n text ts r after
wrote s name held n text w ts r after same (at_end h u x is) =
    wrote_end s name h n text u x (item_of s h n) same refl is
wrote s name held n text w ts r after same (last_reply h k u y a x arg us is replies ends) =
    absurd (goes_on h k s n text u a x same ends)
wrote s name held n text w ts r after same (one_reply h k l u y a x arg us vs is replies ends rest) =
    wrote_more s name h k n text u y a x arg us vs l (item_of s h n) same refl is replies
    (λ t e. wrote s name k (one_more n) t (hear k.store (question h u).work a).work vs x l e rest)

-- From the first place on.

above_first : (n : ℕ) → nat_eq (one_more n) 0 ≡ false
above_first n = grind (arith, nat_tests)

elements_behind : (a : ObjId) (n : ℕ) (ts : List (List ℕ)) → nat_eq n 0 ≡ false
    → whole (Elements a) n ts ≡ marked (codes ", ") (codes ", ") ts ++ codes "]"
elements_behind a n [] above = ap (λ (c : Bool). if c then codes "[]" else codes "]") above
elements_behind a n (t ∷ ts) above =
    ap (λ (c : Bool). (if c then codes "[" else codes ", ") ++ (t ++ whole (Elements a) (one_more n) ts)) above
    ∙ ap (λ (l : List ℕ). codes ", " ++ (t ++ l)) (elements_behind a (one_more n) ts (above_first n))
    ∙ ap (λ (l : List ℕ). codes ", " ++ l) (sym (append_assoc t (marked (codes ", ") (codes ", ") ts) (codes "]")))
    ∙ sym (append_assoc (codes ", ") (t ++ marked (codes ", ") (codes ", ") ts) (codes "]"))

elements_text : (a : ObjId) (ts : List (List ℕ))
    → whole (Elements a) 0 ts ≡ enclosed (codes "[") (codes "]") (between (codes ", ") (codes ", ") ts)
elements_text a [] = refl
elements_text a (t ∷ ts) = ap (λ (l : List ℕ). codes "[" ++ (t ++ l)) (elements_behind a (one_more 0) ts (above_first 0))
    ∙ ap (λ (l : List ℕ). codes "[" ++ l) (sym (append_assoc t (marked (codes ", ") (codes ", ") ts) (codes "]")))

pub array_written : (held after : Held) (recv v : Value) (a : ObjId) (block : Option ObjId) (ts : List Turn)
    → an_array held.store.objects recv ≡ Some a
    → Gives (row.Items (items_row.Compares comparing_row.ArrayText)) held recv [] block ts v after
    → IsWritten (codes "inspect") (element a) held ts
    (λ h parts. IsText h (enclosed (codes "[") (codes "]") (between (codes ", ") (codes ", ") parts)) v after)
array_written held after recv v a block ts array run =
    let f = first_of comparing_row.ArrayText held recv [] block ts v after run in
    let comes = subst (λ (o : Option ObjId). comparing.Of held class.Array recv o
    (λ x. comparing.ForArray comparing_row.ArrayText held x [] f.first) f.first) array f.starts in
    let name = symbol (codes "inspect") held in
    let begun = with_symbol (codes "inspect") held in
    let k = wrote (Elements a) name begun 0 [] (comparing.showing (Elements a)) ts v after refl
    (courses name ts v after begun (comparing.showing (Elements a)) f.first comes f.runs) in
    record {
      texts = k.parts;
      last = k.last;
      writes = k.writes;
      result = subst (λ (t : List ℕ). IsText k.last t v after) (elements_text a k.parts) k.made;
    }

-- keys and values

abbrev mark : Bool → List ℕ
mark odd = if odd then codes "=>" else codes ", "

parity_next : (n : ℕ) (odd : Bool) → nat_eq (n % 2) 1 ≡ odd → n + 1 < 2 ^ 64 → nat_eq (one_more n % 2) 1 ≡ not odd
parity_next n true is less =
    let next : one_more n ≡ n + 1 = omega (arith, less) in
    let even : (n + 1) % 2 ≡ 0 = omega (arith, eqb-true (n % 2) 1 is) in
    ap (λ (k : ℕ). nat_eq (k % 2) 1) next ∙ ap (λ (k : ℕ). nat_eq k 1) even
parity_next n false is less =
    let next : one_more n ≡ n + 1 = omega (arith, less) in
    let odd : (n + 1) % 2 ≡ 1 = omega (arith, eqb-false (n % 2) 1 is) in
    ap (λ (k : ℕ). nat_eq (k % 2) 1) next ∙ ap (λ (k : ℕ). nat_eq k 1) odd

one_behind : (n k : ℕ) → n + suc k < 2 ^ 64 → n + 1 < 2 ^ 64
one_behind n k less = omega (arith, less)

still_less : (n k : ℕ) → n + suc k < 2 ^ 64 → one_more n + k < 2 ^ 64
still_less n k less = omega (arith, less)

before_is : (ps : List HashItem) (n : ℕ) (odd : Bool) → nat_eq n 0 ≡ false → nat_eq (n % 2) 1 ≡ odd
    → before (Pairs ps) n ≡ mark odd
before_is ps n odd above parity =
    ap (λ (c : Bool). if nat_eq (n % 2) 1 then codes "=>" else (if c then codes "{" else codes ", ")) above
    ∙ ap mark parity

pairs_behind : (ps : List HashItem) (n : ℕ) (odd : Bool) (ts : List (List ℕ)) → nat_eq n 0 ≡ false
    → nat_eq (n % 2) 1 ≡ odd → n + length ts < 2 ^ 64
    → whole (Pairs ps) n ts ≡ marked (mark odd) (mark (not odd)) ts ++ codes "}"
pairs_behind ps n odd [] above parity less =
    ap (λ (c : Bool). if c then codes "{}" else codes "}") above
pairs_behind ps n odd (t ∷ ts) above parity less =
    ap (λ (l : List ℕ). l ++ (t ++ whole (Pairs ps) (one_more n) ts)) (before_is ps n odd above parity)
    ∙ ap (λ (l : List ℕ). mark odd ++ (t ++ l)) (pairs_behind ps (one_more n) (not odd) ts (above_first n)
    (parity_next n odd parity (one_behind n (length ts) less)) (still_less n (length ts) less))
    ∙ ap (λ (c : Bool). mark odd ++ (t ++ (marked (mark (not odd)) (mark c) ts ++ codes "}"))) (not_not odd)
    ∙ ap (λ (l : List ℕ). mark odd ++ l) (sym (append_assoc t (marked (mark (not odd)) (mark odd) ts) (codes "}")))
    ∙ sym (append_assoc (mark odd) (t ++ marked (mark (not odd)) (mark odd) ts) (codes "}"))
  where
    not_not : (c : Bool) → not (not c) ≡ c
    not_not true = refl
    not_not false = refl

pairs_text : (ps : List HashItem) (ts : List (List ℕ)) → length ts < 2 ^ 64
    → whole (Pairs ps) 0 ts ≡ enclosed (codes "{") (codes "}") (between (codes "=>") (codes ", ") ts)
pairs_text ps [] less = refl
pairs_text ps (t ∷ ts) less = ap (λ (l : List ℕ). codes "{" ++ (t ++ l))
    (pairs_behind ps (one_more 0) true ts (above_first 0) (parity_next 0 false refl (one_behind 0 (length ts) from_zero))
    (still_less 0 (length ts) from_zero))
    ∙ ap (λ (l : List ℕ). codes "{" ++ l) (sym (append_assoc t (marked (codes "=>") (codes ", ") ts) (codes "}")))
  where
    from_zero : 0 + suc (length ts) < 2 ^ 64
    from_zero = from_first (suc (length ts)) less

pub hash_written : (held after : Held) (recv v : Value) (h : ObjId) (block : Option ObjId) (ts : List Turn)
    → a_hash held.store.objects recv ≡ Some h
    → Gives (row.Items (items_row.Compares comparing_row.HashText)) held recv [] block ts v after
    → IsWritten (codes "inspect") (part_of (items (pairs held.store h))) held ts (λ k parts. length parts < 2 ^ 64
    → IsText k (enclosed (codes "{") (codes "}") (between (codes "=>") (codes ", ") parts)) v after)
hash_written held after recv v h block ts hash run =
    let f = first_of comparing_row.HashText held recv [] block ts v after run in
    let comes = subst (λ (o : Option ObjId). comparing.Of held class.Hash recv o
    (λ x. comparing.ForHash comparing_row.HashText held x [] block f.first) f.first) hash f.starts in
    let name = symbol (codes "inspect") held in
    let begun = with_symbol (codes "inspect") held in
    let shown = Pairs (items (pairs held.store h)) in
    let k = wrote shown name begun 0 [] (comparing.showing shown) ts v after refl
    (courses name ts v after begun (comparing.showing shown) f.first comes f.runs) in
    record {
      texts = k.parts;
      last = k.last;
      writes = k.writes;
      result = λ less. subst (λ (t : List ℕ). IsText k.last t v after)
          (pairs_text (items (pairs held.store h)) k.parts less) k.made;
    }
