-- The file that was read last.
use Rattle.std.specs.Prelude.{ℕ, List, Option, Bool, IfSome, IsTrue}
use Rattle.rb_base.specs.Outside.{IsLoaded}

-- its name, how many bytes were asked for, and those that it had
pub record KeptFile : Type 0 where
  pub name : List ℕ
  pub limit : ℕ
  pub bytes : List ℕ

-- the files, and the one that was read last
pub record KeptState (F : Type 0) : Type 0 where
  pub files : F
  pub kept : Option KeptFile

-- what is kept is what the file holds
abbrev pub IsCurrent : Bool → (List ℕ → Option (List ℕ)) → Option KeptFile → Type 0
IsCurrent tells file kept = IsTrue tells → IfSome kept (λ k. IsLoaded (file k.name) k.limit k.bytes)
