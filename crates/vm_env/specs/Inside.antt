-- How environments are kept.
use Rattle.std.specs.Prelude.{◌≡◌, ◌≢◌, ℕ, ◌+◌, ◌^◌, ◌<◌, ◌≤◌, List, [], Bool, true, false, length, map, All, if◌then◌else◌}
use Rattle.std.specs.List.{slice_index_or}
use Rattle.std.specs.Vec.{vec_capacity}
use Rattle.rb_value.specs.declared.value.Value.{Value}
use Rattle.vm_env.specs.declared.envs.Env.{Env as Stored}
use Rattle.vm_env.specs.Env.{Env, Open, Closed, MeetsNot, env}

pub record Kept : Type 0 where
  pub stack : ℕ
  pub base : ℕ
  pub size : ℕ
  pub open_now : Bool
  pub values : List Value
  pub room : ℕ

abbrev pub kept : Stored → Kept
kept e = record {
  stack = e.stack.0;
  base = e.base;
  size = e.size;
  open_now = e.«open»;
  values = e.values.items;
  room =
      vec_capacity e.values;
}

abbrev pub seen : Kept → Env
seen k = if k.open_now then Open k.stack k.base k.size else Closed k.values

-- the window can be numbered, and while the environment is open there is room for its values
pub record IsWhole (k : Kept) : Type 0 where
  pub fits : k.base + k.size < 2 ^ 64
  pub empty : k.open_now ≡ true → k.values ≡ []
  pub room : k.open_now ≡ true → k.size ≤ k.room

-- windows of two open environments on one stack don't meet
abbrev pub Apart : Env → Env → Type 0
Apart (Open stack base n) other = MeetsNot other stack base n
Apart (Closed values) other = Unit {0}

pub record IsSound (ks : List Kept) : Type 0 where
  pub whole : All IsWhole ks
  pub apart : (d e : ℕ) → d ≢ e → Apart (env (map seen ks) d) (env (map seen ks) e)
