-- The record of a body takes no more of a file than is counted of the body.
use Rattle.std.proofs.Common.{◌≡◌, ◌≤◌, ℕ, ◌+◌, ◌*◌, ℤ, List, [], ◌∷◌, ◌++◌, length, map, arith, refl, length-append}
use Rattle.std.specs.List.{flat_map}
use Rattle.std.proofs.lemmas.List.{length-map}
use Rattle.rite_code.specs.declared.code.Irep.{Irep}
use Rattle.rite_code.specs.declared.code.CatchEntry.{CatchEntry}
use Rattle.rite_code.specs.declared.code.PoolItem.TheVariants as pool
use Rattle.rite_file.specs.File.{text, catch_entry, pool_item, counted, record_of}
use Rattle.ir_core.specs.CoreForm.{Body}
use Rattle.ir_walk.specs.Walk.{Step}
use Rattle.ir_counts.specs.Counts.{text_bytes, tally, code_of}
use Rattle.gen_parts.specs.declared.assembling.Head.{Head}
use Rattle.gen_parts.specs.Pieces.{Piece}
use Rattle.gen_parts.specs.Assembly.{places, instructions, entry_by, assembled}
use Rattle.gen_forms.specs.Gen.{pool_of}
use Rattle.code_laws.proofs.Wells.{weights}
use Rattle.code_laws.proofs.Assembled.{length_encodings, total_is, sizes_weights}
use Rattle.code_laws.proofs.Bodywise.{body_of}
use Rattle.code_laws.proofs.Amounts.{filed, worth, sized, Amount}

record_length : (b : Irep) → length (record_of b) ≡ 20 + length b.code + length (flat_map catch_entry b.catches)
    + length (flat_map pool_item b.pool) + length (flat_map text b.symbols)
unfolding record_of
record_length b =
    let names = counted text b.symbols in
    let items = counted pool_item b.pool in
    omega (
      arith,
      length-append b.code (flat_map catch_entry b.catches ++ (items ++ names)),
      length-append (flat_map catch_entry b.catches) (items ++ names),
      length-append (flat_map pool_item b.pool) names,
    )

entries_length : (cs : List CatchEntry) → length (flat_map catch_entry cs) ≡ 13 * length cs
entries_length [] = refl
entries_length (c ∷ cs) =
    omega (arith, length-append (catch_entry c) (flat_map catch_entry cs), entries_length cs)

names_least : (n : ℕ) (xs : List (List ℕ)) → n + length (flat_map text xs) ≤ text_bytes n xs
names_least n [] = omega arith
names_least n (x ∷ xs) =
    omega (arith, length-append (text x) (flat_map text xs), names_least (n + (8 + length x)) xs)

texts_least : (n : ℕ) (xs : List (List ℕ)) → n + length (flat_map pool_item (map pool.Text xs)) ≤ text_bytes n xs
texts_least n [] = omega arith
texts_least n (x ∷ xs) =
    omega (
      arith,
      length-append (pool_item (pool.Text x)) (flat_map pool_item (map pool.Text xs)),
      texts_least (n + (8 + length x)) xs,
    )

items_length : (zs : List ℤ) (xs : List (List ℕ))
    → length (flat_map pool_item (map pool.Int zs ++ map pool.Text xs))
    ≡ 9 * length zs + length (flat_map pool_item (map pool.Text xs))
items_length [] xs = omega arith
items_length (z ∷ zs) xs =
    omega (
      arith,
      length-append (pool_item (pool.Int z)) (flat_map pool_item (map pool.Int zs ++ map pool.Text xs)),
      items_length zs xs,
    )

-- the record of a body whose lines and entries take what is counted of its code
record_within : (b : Body) (h : Head) (q : Piece)
    → weights q.lines + 13 * length q.catches ≤ code_of b (tally b)
    → length (record_of (body_of h (pool_of (tally b)) (tally b).symbols q)) ≤ worth b
unfolding worth
record_within b h q few =
    let t = tally b in
    let at = places h.wide 0 q.lines in
    let is = instructions h.wide at 0 q.lines in
    let code = code_of b t in
    let before = 64 + code + 13 * t.handlers + 9 * length t.integers in
    omega (
      arith,
      few,
      record_length (body_of h (pool_of t) t.symbols q),
      length_encodings is,
      total_is h.wide at 0 q.lines,
      sizes_weights h.wide q.lines,
      entries_length (map (entry_by at) q.catches),
      length-map q.catches (entry_by at),
      items_length t.integers t.texts,
      texts_least before t.texts,
      names_least (text_bytes before t.texts) t.symbols,
    )

-- the records of a body and those in it
pub records_within : (b : Body) (h : Head) (q : Piece) (d : ℕ) (u v : List Step) → Amount q (code_of b (tally b)) d u v
    → filed (assembled h (pool_of (tally b)) (tally b).symbols q) + sized u ≤ worth b + sized v
unfolding assembled filed
records_within b h q d u v m = omega (arith, record_within b h q m.light, m.held)
