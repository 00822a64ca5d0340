-- Changes of what is beside the store that keep a world fine.
use Rattle.std.proofs.Common.{ℕ, suc, ◌+◌, ◌<◌, List, [], ◌∷◌, ◌++◌, length, Bool, true, refl, arith}
use Rattle.std.specs.Prelude.{nat_eq}
use Rattle.indexmap.specs.IndexMap.{insert_entry}
use Rattle.rb_value.specs.declared.value.Value.{Value}
use Rattle.rb_value.specs.declared.value.ObjId.{ObjId}
use Rattle.rb_value.specs.declared.value.SymId.{SymId}
use Rattle.def_core.specs.Sound.{Census, sorts_of, census, ClassOrModule, Is, IsSymbol, IsValue, AllAre}
use Rattle.def_core.proofs.Keeps.{named_kept}
use Rattle.def_core.proofs.PartsSound.{all_more}
use Rattle.def_calls.specs.World.{World, Activation, Enclosing, write, with_global, with_activation, with_enclosing}
use Rattle.def_calls.specs.Calls.{asking}
use Rattle.world_laws.specs.Fine.{Bodies, Extends, IsClasses, ActivationIs, EnclosingAre, GlobalIs, Fine, Keeps}
use Rattle.world_laws.specs.Outcomes.{OpensIn}
use Rattle.world_laws.proofs.Growing.{goes_itself, goes_more}
use Rattle.world_laws.proofs.Standing.{objects_stay, activations_stay}

-- with other input and output, or global variables, or another answer to whether an exception was asked
abbrev pub beside : World → List (ℕ × Value) → List ℕ → List ℕ → Bool → World
beside w globals input out asked = record w { globals = globals; input = input; out = out; asked = asked }

pub extends_beside : (w : World) (globals : List (ℕ × Value)) (input out : List ℕ) (asked : Bool)
    → Extends w (beside w globals input out asked)
extends_beside w globals input out asked = record {
  sorts = goes_itself (sorts_of w.store.objects);
  symbols = goes_itself w.store.symbols;
  enclosing = goes_itself w.enclosing;
  activations = goes_itself w.activations;
}

pub extends_activation : (w : World) (a : Activation) → Extends w (with_activation w a)
extends_activation w a = record {
  sorts = goes_itself (sorts_of w.store.objects);
  symbols = goes_itself w.store.symbols;
  enclosing = goes_itself w.enclosing;
  activations = goes_more w.activations (a ∷ []);
}

pub extends_enclosing : (w : World) (c : ObjId) (around : ℕ) → Extends w (with_enclosing w c around)
extends_enclosing w c around = record {
  sorts = goes_itself (sorts_of w.store.objects);
  symbols = goes_itself w.store.symbols;
  enclosing = goes_more w.enclosing ((record { class = c; around = around }) ∷ []);
  activations = goes_itself w.activations;
}

-- the next list of classes is around one that is there
enclosing_more : (k : Census) (n : ℕ) (es : List Enclosing) (c : Enclosing) → EnclosingAre k n es
    → Is k ClassOrModule c.class → c.around < n + length es → EnclosingAre k n (es ++ c ∷ [])
enclosing_more k n [] c h is lt = (is, omega (arith, lt), tt)
enclosing_more k n (e ∷ es) c h is lt = (h.0, h.1, enclosing_more k (suc n) es c h.2 is (omega (arith, lt)))

pub extends_written : (w : World) (bytes : List ℕ) → Extends w (write w bytes)
extends_written w bytes = extends_beside w w.globals w.input (w.out ++ bytes) w.asked

module _ (b : Bodies) (w : World) (fine : Fine b w) where
  fine_beside : (globals : List (ℕ × Value)) (input out : List ℕ) (asked : Bool)
      → AllAre (GlobalIs (census w.store)) globals → Fine b (beside w globals input out asked)
  fine_beside globals input out asked all =
      let v : World = beside w globals input out asked in
      let e = extends_beside w globals input out asked in
      record {
        store = fine.store;
        objects = objects_stay b w v e w.store.objects fine.objects;
        globals = all;
        enclosing = fine.enclosing;
        activations = activations_stay w v e w.activations fine.activations;
      }

  keeps_beside : (globals : List (ℕ × Value)) (input : List ℕ) (asked : Bool)
      → AllAre (GlobalIs (census w.store)) globals → Keeps b w (beside w globals input w.out asked)
  keeps_beside globals input asked all = record {
    fine = fine_beside globals input w.out asked all;
    extends = extends_beside w globals input w.out asked;
    out = refl;
  }

  pub keeps_input : (input : List ℕ) → Keeps b w (record w { input = input })
  keeps_input input = keeps_beside w.globals input w.asked fine.globals

  -- what is written is no part of a fine world
  pub fine_written : (bytes : List ℕ) → Fine b (write w bytes)
  fine_written bytes = fine_beside w.globals w.input (w.out ++ bytes) w.asked fine.globals

  pub keeps_asking : Keeps b w (asking w)
  keeps_asking = keeps_beside w.globals w.input true fine.globals

  pub keeps_global : (name : SymId) (x : Value) → IsSymbol (census w.store) name → IsValue (census w.store) x
      → Keeps b w (with_global w name x)
  keeps_global name x symbol value =
      keeps_beside (insert_entry nat_eq w.globals name.0 x) w.input w.asked
      (named_kept (census w.store) (IsValue (census w.store)) w.globals name.0 x fine.globals (symbol.below, value))

  pub keeps_activation : (a : Activation) → OpensIn w a → Keeps b w (with_activation w a)
  keeps_activation a opens =
      let v : World = with_activation w a in
      let e = extends_activation w a in
      record {
        fine = record {
          store = fine.store;
          objects = objects_stay b w v e w.store.objects fine.objects;
          globals = fine.globals;
          enclosing = fine.enclosing;
          activations = all_more (ActivationIs v) w.activations (a ∷ [])
              (activations_stay w v e w.activations fine.activations) (opens, tt);
        };
        extends = e;
        out = refl;
      }

  pub keeps_enclosing : (c : ObjId) (around : ℕ) → Is (census w.store) ClassOrModule c → IsClasses w around
      → Keeps b w (with_enclosing w c around)
  keeps_enclosing c around is there =
      let v : World = with_enclosing w c around in
      let e = extends_enclosing w c around in
      record {
        fine = record {
          store = fine.store;
          objects = objects_stay b w v e w.store.objects fine.objects;
          globals = fine.globals;
          enclosing = enclosing_more (census w.store) 1 w.enclosing (record { class = c; around = around })
              fine.enclosing is (omega (arith, there));
          activations = activations_stay w v e w.activations fine.activations;
        };
        extends = e;
        out = refl;
      }
