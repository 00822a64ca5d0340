-- What users of an outline may rely on.
use Rattle.std.proofs.Common.{◌≡◌, ℕ, ◌+◌, ◌-◌, List, length, arith, All}
use Rattle.std.specs.Prelude.{Some, slice_get}
use Rattle.std.proofs.lemmas.List.Elements.{All-weaker}
use Rattle.rite_code.specs.declared.code.Irep.{Irep}
use Rattle.rite_code.specs.Code.{Program, IsWhole}
use Rattle.code_outline.specs.Layout.{Standing, layout}
use Rattle.code_outline.specs.Laws.{Lays, Nests, IsWithin}
use Rattle.code_outline.specs.Outlined.{index_from}
use Rattle.code_outline.proofs.Bodies.{children-within}
use Rattle.code_outline.proofs.Layouts.{read-layout, end-layout}
use Rattle.code_outline.proofs.Makes.{maker_of-makes}
use Rattle.code_outline.proofs.Rows.{row-layout, index_from-get, index_from-found}
use Rattle.code_outline.proofs.Scopes.{scope_out-below}

by_place : (version : ℕ) (code : List ℕ) (k : ℕ) (s : Standing) → slice_get (layout version code) k ≡ Some s
    → index_from 0 (layout version code) s.at ≡ Some k
by_place version code k s e = let n : 0 + k ≡ k = omega arith in
    rw (← n) (index_from-get (length code) 0 0 k (layout version code) s (row-layout version code) e)

at_place : (version : ℕ) (code : List ℕ) (place k : ℕ) → index_from 0 (layout version code) place ≡ Some k
    → (s : Standing) × (slice_get (layout version code) k ≡ Some s) × (s.at ≡ place)
at_place version code place k e =
    let f = index_from-found 0 place k (layout version code) e in
    let n : k - 0 ≡ k = omega arith in
    (f.found, rw n at f.is, f.stands)

pub lays : (version : ℕ) (code : List ℕ) → Lays version code
lays version code = record {
  row = row-layout version code;
  read = read-layout version code;
  ends = end-layout version code;
  by_place = by_place version code;
  at_place = at_place version code;
}

children : (p : Program) → IsWhole p → (k : ℕ) (b : Irep) → slice_get p.bodies k ≡ Some b
    → All (IsWithin (k + 1) (length p.bodies)) b.children
children p w k b e = All-weaker (IsWithin (0 + k + 1) (0 + length p.bodies)) (IsWithin (k + 1) (length p.bodies))
    (λ j h. (omega (arith, h.0), omega (arith, h.1))) b.children (children-within k b w.tree e)

pub nests : (p : Program) → Nests p
nests p = record { makers = maker_of-makes p; scopes = scope_out-below p; children = children p }
