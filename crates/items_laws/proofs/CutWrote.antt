-- `inspect` and `join`, in which a value never replies.
use Rattle.std.proofs.Common.{◌≡◌, ℕ, ◌<◌, ◌^◌, refl, sym, ap, subst, ◌∙◌, List, [], ◌∷◌, ◌++◌, length}
use Rattle.std.specs.Prelude.{codes, false, Option, Some, None}
use Rattle.rb_value.specs.declared.value.Value.{Value}
use Rattle.rb_value.specs.declared.value.ObjId.{ObjId}
use Rattle.rb_value.specs.declared.value.SymId.{SymId}
use Rattle.rb_value.specs.declared.core_class.CoreClass.TheVariants as class
use Rattle.def_calls.specs.Views.{an_array, a_hash, kind_in, string_of}
use Rattle.def_core.specs.Parts.{elements_at}
use Rattle.rb_store.specs.Held.{Held, one_more}
use Rattle.core_calls.specs.Flat.{flattened}
use Rattle.core_calls.specs.declared.flattening.Empty.TheVariants.{Stays}
use Rattle.def_plans.specs.Plan.{Planned}
use Rattle.iter_comparing.specs.declared.joining.Joining.{Joining}
use Rattle.iter_comparing.specs.declared.questions.Question.TheVariants.{Asks as AsksFor}
use Rattle.iter_comparing.specs.declared.row.ComparingRow.TheVariants as comparing_row
use Rattle.iter_comparing.specs.declared.showing.Shown.{Shown}
use Rattle.iter_comparing.specs.declared.showing.Shown.TheVariants.{Elements, Pairs}
use Rattle.iter_comparing.specs.declared.state.Work.{Work}
use Rattle.iter_comparing.specs.declared.state.Work.TheVariants as work
use Rattle.iter_comparing.specs.Asking.{Begins, args_of, hear, is_known, question}
use Rattle.iter_comparing.specs.Hashes.{items, pairs}
use Rattle.iter_comparing.specs.Questions.{Asked, show}
use Rattle.iter_comparing.specs.Rows as comparing
use Rattle.iter_comparing.specs.Stage as over_values
use Rattle.iter_comparing.specs.Texts as texts
use Rattle.core_iter.specs.Stage.{Stage}
use Rattle.items_laws.specs.Run.{Turn, Runs, waiting}
use Rattle.items_laws.specs.Asked.{Replies, symbol, with_symbol}
use Rattle.items_laws.specs.Compared.{element}
use Rattle.items_laws.specs.CutAsked.{IsAbandoned, IsUnreplied}
use Rattle.items_laws.specs.CutWritten.{CutsJoining, CutsWriting, JoinsOff, WritesOff, itself, one_replied, piece_replied, piece_unreplied, unreplied}
use Rattle.items_laws.specs.Written.{part_of}
use Rattle.items_laws.proofs.Pieced.{Left, asks_left, left_behind, none_before, own_is}
use Rattle.items_laws.proofs.Pieced as pieced
use Rattle.items_laws.proofs.Readers.{argument_same, receiver_same}
use Rattle.items_laws.proofs.Sent.{lifted, opening}
use Rattle.items_laws.proofs.Unended.{Unended, has_replied, never_replied, unended}
use Rattle.items_laws.proofs.Wrote.{at, before, item_of, no_text, question_is, showing_at, text_reply}

-- a value that is asked for its text
text_lost : (name : SymId) (held : Held) (w v : Work) (x y : Value) (arg : Option Value) (last : Planned Stage)
    → question held w ≡ record { question = show x; work = v; held = held } → (question held w).question ≡ AsksFor y arg
    → IsUnreplied (is_known (question held w).work y arg) name (question held w).held y (args_of arg) last
    → IsUnreplied false name held x [] last
text_lost name held w v x y arg last seen is lost =
    let same = sym (ap (λ (q : Asked Work). q.question) seen) ∙ is in
    let one = subst (λ (q : Asked Work). IsUnreplied (is_known q.work y arg) name q.held y (args_of arg) last) seen lost in
    let two = subst (λ (o : Option Value). IsUnreplied (is_known v y o) name held y (args_of o) last)
    (sym (argument_same x y None arg same)) one in
    subst (λ (u : Value). IsUnreplied false name held u [] last) (sym (receiver_same x y None arg same)) two

-- `inspect`

lost_at : (s : Shown) (name : SymId) (held : Held) (n : ℕ) (text : List ℕ) (w : Work) (y : Value) (arg : Option Value)
    (last : Planned Stage) (o : Option Value) → w ≡ at s n text → item_of s held n ≡ o
    → (question held w).question ≡ AsksFor y arg
    → IsUnreplied (is_known (question held w).work y arg) name (question held w).held y (args_of arg) last
    → WritesOff name (item_of s) held n [] last
lost_at s name held n text w y arg last None same there is lost =
    let bytes = text ++ texts.last s n in
    absurd (no_text held (showing_at s n []) bytes y arg (texts.is_too_long bytes) refl
    (sym (ap (λ (q : Asked Work). q.question) (question_is held s n text w None same there)) ∙ is))
lost_at s name held n text w y arg last (Some x) same there is lost = unreplied held n x last there
    (text_lost name held w (at s n (text ++ before s n)) x y arg last
    (question_is held s n text w (Some x) same there) is lost)

written_on : (s : Shown) (name : SymId) (held k : Held) (n : ℕ) (text : List ℕ) (w : Work) (y a : Value)
    (arg : Option Value) (us ts : List Turn) (last : Planned Stage) (o : Option Value) → w ≡ at s n text
    → item_of s held n ≡ o → (question held w).question ≡ AsksFor y arg
    → Replies (is_known (question held w).work y arg) name (question held w).held y (args_of arg) us a k
    → ((t : List ℕ) → (hear k.store (question held w).work a).work ≡ at s (one_more n) t
    → WritesOff name (item_of s) k (one_more n) ts last) → WritesOff name (item_of s) held n (us ++ ts) last
written_on s name held k n text w y a arg us ts last None same there is replies rest =
    let bytes = text ++ texts.last s n in
    absurd (no_text held (showing_at s n []) bytes y arg (texts.is_too_long bytes) refl
    (sym (ap (λ (q : Asked Work). q.question) (question_is held s n text w None same there)) ∙ is))
written_on s name held k n text w y a arg us ts last (Some x) same there is replies rest =
    let seen = question_is held s n text w (Some x) same there in
    let so_far = text ++ before s n in
    one_replied held k n x a us ts last there
    (text_reply name held k w (at s n so_far) x y a arg us seen is replies)
    (rest (so_far ++ texts.bytes_of k.store a) (ap (λ (q : Asked Work). (hear k.store q.work a).work) seen))

unwritten : (s : Shown) (name : SymId) (held : Held) (n : ℕ) (text : List ℕ) (w : Work) (ts : List Turn)
    (last : Planned Stage) → w ≡ at s n text → Unended name held w ts last → WritesOff name (item_of s) held n ts last
unwritten s name held n text w ts last same (never_replied h u x arg q is lost) =
    lost_at s name h n text u x arg q (item_of s h n) same refl is lost
unwritten s name held n text w ts last same (has_replied h k u x a arg us vs q is replies ends rest) =
    written_on s name h k n text u x a arg us vs q (item_of s h n) same refl is replies
    (λ t e. unwritten s name k (one_more n) t (hear k.store (question h u).work a).work vs q e rest)

written_from : (s : Shown) (held : Held) (ts : List Turn) (last : Planned Stage) (stage : Stage)
    (first : Planned over_values.Stage) → waiting last.plan ≡ Some stage
    → Begins held (codes "inspect") (comparing.showing s) first → Runs (lifted first) ts last
    → CutsWriting (codes "inspect") (item_of s) held ts last
written_from s held ts last stage first waits begins runs =
    let name = symbol (codes "inspect") held in
    let begun = with_symbol (codes "inspect") held in
    unwritten s name begun 0 [] (comparing.showing s) ts last refl
    (unended name last stage waits ts begun (comparing.showing s) first begins runs)

pub array_cut : (held : Held) (recv : Value) (a : ObjId) (block : Option ObjId) (ts : List Turn) (last : Planned Stage)
    → an_array held.store.objects recv ≡ Some a → IsAbandoned comparing_row.ArrayText held recv [] block ts last
    → CutsWriting (codes "inspect") (element a) held ts last
array_cut held recv a block ts last array run =
    let f = opening comparing_row.ArrayText held recv [] block ts run.first last run.starts run.runs in
    written_from (Elements a) held ts last run.stage f.first run.waits
    (subst (λ (o : Option ObjId). comparing.Of held class.Array recv o
    (λ x. comparing.ForArray comparing_row.ArrayText held x [] f.first) f.first) array f.starts) f.runs

pub hash_cut : (held : Held) (recv : Value) (h : ObjId) (block : Option ObjId) (ts : List Turn) (last : Planned Stage)
    → a_hash held.store.objects recv ≡ Some h → IsAbandoned comparing_row.HashText held recv [] block ts last
    → CutsWriting (codes "inspect") (part_of (items (pairs held.store h))) held ts last
hash_cut held recv h block ts last hash run =
    let f = opening comparing_row.HashText held recv [] block ts run.first last run.starts run.runs in
    written_from (Pairs (items (pairs held.store h))) held ts last run.stage f.first run.waits
    (subst (λ (o : Option ObjId). comparing.Of held class.Hash recv o
    (λ x. comparing.ForHash comparing_row.HashText held x [] block f.first) f.first) hash f.starts) f.runs

-- `join`

-- what the last piece that is asked comes to

abbrev LostSo : SymId → Held → List Value → Type 0
LostSo name held ps = (w : Joining) (u : Work) (y : Value) (arg : Option Value) (last : Planned Stage) → Left w ps
    → question held u ≡ pieced.asking held w ps → (question held u).question ≡ AsksFor y arg
    → IsUnreplied (is_known (question held u).work y arg) name (question held u).held y (args_of arg) last
    → JoinsOff name held ps [] last

lost_by : (name : SymId) (held : Held) (p : Value) (ps : List Value) → LostSo name held ps → (o : Option (List ℕ))
    → texts.own_text held.store p ≡ o → LostSo name held (p ∷ ps)
lost_by name held p ps rest None own = λ w u y arg last left seen is lost. piece_unreplied held p ps last own
    (text_lost name held u (work.Joins w) p y arg last (seen ∙ own_is held w p ps None own) is lost)
lost_by name held p ps rest (Some bytes) own = λ w u y arg last left seen is lost.
    itself held p bytes ps [] last own
    (rest (texts.passed (texts.with_text w bytes)) u y arg last (left_behind w p ps bytes left)
    (seen ∙ own_is held w p ps (Some bytes) own) is lost)

lost_from : (name : SymId) (held : Held) (ps : List Value) → LostSo name held ps
lost_from name held [] = λ w u y arg last left seen is lost.
    absurd (no_text held (record w { text = [] }) w.text y arg (texts.is_too_long w.text) refl
    (sym (ap (λ (q : Asked Work). q.question) seen) ∙ is))
lost_from name held (p ∷ ps) =
    lost_by name held p ps (lost_from name held ps) (texts.own_text held.store p) refl

-- a reply before

abbrev GoesSo : SymId → Held → Held → Work → Value → List Turn → Planned Stage → List Value → Type 0
GoesSo name held k u a ts last ps = (w : Joining) (y : Value) (arg : Option Value) (us : List Turn) → Left w ps
    → question held u ≡ pieced.asking held w ps → (question held u).question ≡ AsksFor y arg
    → Replies (is_known (question held u).work y arg) name (question held u).held y (args_of arg) us a k
    → JoinsOff name held ps (us ++ ts) last

abbrev Further : SymId → Held → Held → Work → Value → List Turn → Planned Stage → Type 0
Further name held k u a ts last = (w : Joining) (ps : List Value)
    → (hear k.store (question held u).work a).work ≡ work.Joins w → Left w ps → JoinsOff name k ps ts last

more_by : (name : SymId) (held k : Held) (u : Work) (a : Value) (ts : List Turn) (last : Planned Stage)
    → Further name held k u a ts last → (p : Value) (ps : List Value) → GoesSo name held k u a ts last ps
    → (o : Option (List ℕ)) → texts.own_text held.store p ≡ o → GoesSo name held k u a ts last (p ∷ ps)
more_by name held k u a ts last further p ps rest None own = λ w y arg us left seen is replies.
    let shown = seen ∙ own_is held w p ps None own in
    let bytes = texts.bytes_of k.store a in
    piece_replied held k p a ps us ts last own
    (text_reply name held k u (work.Joins w) p y a arg us shown is replies)
    (further (texts.passed (texts.with_text w bytes)) ps
    (ap (λ (q : Asked Work). (hear k.store q.work a).work) shown) (left_behind w p ps bytes left))
more_by name held k u a ts last further p ps rest (Some bytes) own = λ w y arg us left seen is replies.
    itself held p bytes ps (us ++ ts) last own
    (rest (texts.passed (texts.with_text w bytes)) y arg us (left_behind w p ps bytes left)
    (seen ∙ own_is held w p ps (Some bytes) own) is replies)

more_from : (name : SymId) (held k : Held) (u : Work) (a : Value) (ts : List Turn) (last : Planned Stage)
    → Further name held k u a ts last → (ps : List Value) → GoesSo name held k u a ts last ps
more_from name held k u a ts last further [] = λ w y arg us left seen is replies.
    absurd (no_text held (record w { text = [] }) w.text y arg (texts.is_too_long w.text) refl
    (sym (ap (λ (q : Asked Work). q.question) seen) ∙ is))
more_from name held k u a ts last further (p ∷ ps) = more_by name held k u a ts last further p ps
    (more_from name held k u a ts last further ps) (texts.own_text held.store p) refl

unjoined : (name : SymId) (held : Held) (w : Joining) (ps : List Value) (u : Work) (ts : List Turn) (last : Planned Stage)
    → u ≡ work.Joins w → Left w ps → Unended name held u ts last → JoinsOff name held ps ts last
unjoined name held w ps u ts last same left (never_replied h x y arg q is lost) =
    lost_from name h ps w x y arg q left (asks_left h w ps x same left) is lost
unjoined name held w ps u ts last same left (has_replied h k x y a arg us vs q is replies ends rest) =
    more_from name h k x a vs q
    (λ v qs e further. unjoined name k v qs (hear k.store (question h x).work a).work vs q e further rest) ps w y arg us left
    (asks_left h w ps x same left) is replies

joined_from : (held : Held) (pieces : List Value) (separator : List ℕ) (ts : List Turn) (last : Planned Stage)
    (stage : Stage) (first : Planned over_values.Stage) → length pieces < 2 ^ 64 → waiting last.plan ≡ Some stage
    → Begins held (codes "to_s") (comparing.joining pieces separator) first → Runs (lifted first) ts last
    → CutsJoining (codes "to_s") held pieces ts last
joined_from held pieces separator ts last stage first less waits begins runs =
    let name = symbol (codes "to_s") held in
    let begun = with_symbol (codes "to_s") held in
    let w : Joining = record { pieces = pieces; place = 0; text = []; separator = separator } in
    unjoined name begun w pieces (work.Joins w) ts last refl
    (record { there = refl; size = none_before (length pieces); less = less })
    (unended name last stage waits ts begun (work.Joins w) first begins runs)

pub joined_cut : (held : Held) (recv : Value) (a : ObjId) (pieces : List Value) (block : Option ObjId) (ts : List Turn)
    (last : Planned Stage) → an_array held.store.objects recv ≡ Some a
    → flattened Stays held.store (elements_at held.store.objects a) ≡ Some pieces → length pieces < 2 ^ 64
    → IsAbandoned comparing_row.ArrayJoin held recv [] block ts last → CutsJoining (codes "to_s") held pieces ts last
joined_cut held recv a pieces block ts last array flat less run =
    let f = opening comparing_row.ArrayJoin held recv [] block ts run.first last run.starts run.runs in
    let of_array = subst (λ (o : Option ObjId). comparing.Of held class.Array recv o
    (λ x. comparing.ForArray comparing_row.ArrayJoin held x [] f.first) f.first) array f.starts in
    joined_from held pieces [] ts last run.stage f.first less run.waits
    (subst (λ (o : Option (List Value)). comparing.JoinsAll held o [] f.first) flat of_array) f.runs

pub joined_with_cut : (held : Held) (recv y : Value) (a : ObjId) (pieces : List Value) (separator : List ℕ)
    (block : Option ObjId) (ts : List Turn) (last : Planned Stage) → an_array held.store.objects recv ≡ Some a
    → string_of (kind_in held.store.objects y) ≡ Some separator
    → flattened Stays held.store (elements_at held.store.objects a) ≡ Some pieces → length pieces < 2 ^ 64
    → IsAbandoned comparing_row.ArrayJoin held recv (y ∷ []) block ts last
    → CutsJoining (codes "to_s") held pieces ts last
joined_with_cut held recv y a pieces separator block ts last array text flat less run =
    let f = opening comparing_row.ArrayJoin held recv (y ∷ []) block ts run.first last run.starts run.runs in
    let of_array = subst (λ (o : Option ObjId). comparing.Of held class.Array recv o
    (λ x. comparing.ForArray comparing_row.ArrayJoin held x (y ∷ []) f.first) f.first) array f.starts in
    let with_text = subst (λ (o : Option (List ℕ)). comparing.JoinsWith held a y o f.first) text of_array in
    joined_from held pieces separator ts last run.stage f.first less run.waits
    (subst (λ (o : Option (List Value)). comparing.JoinsAll held o separator f.first) flat with_text) f.runs
