use Rattle.std.proofs.Common.{◌≡◌, ℕ, List, ◌++◌, flat_map, refl}
use Rattle.rite_code.specs.declared.code.CatchEntry.{CatchEntry}
use Rattle.rite_code.specs.declared.code.Irep.{Irep}
use Rattle.rite_code.specs.declared.code.PoolItem.{PoolItem}
use Rattle.code_listing.specs.Listing as texts
use Rattle.rb_refusal.proofs.Progress.{started, went_on, stopped, ended}
use Rattle.code_listing.proofs.bodies.write_body.Goals as goal

parts : (version n : ℕ) (b : Irep) (code : List ℕ) (catches : List CatchEntry) (pool : List PoolItem)
    (symbols : List (List ℕ)) → code ≡ b.code → catches ≡ b.catches → pool ≡ b.pool → symbols ≡ b.symbols
    → texts.body_lines version n b ≡ texts.head_line n b
    ++ (texts.code_lines version code
    ++ (flat_map texts.catch_line catches
    ++ (texts.numbered texts.pool_line 0 pool ++ texts.numbered texts.symbol_line 0 symbols)))
unfolding texts.body_lines
parts version n b code catches pool symbols e f h k = rw (e, f, h, k)

pub returns-in_err-write_head : goal.returns-in_err-write_head
returns-in_err-write_head g c = stopped _ _ _ _ _ _ _ _ _ _ c.in_err-write_head.was c.from_residual.ensures.0
    (parts c.args.version c.args.number c.args.body.now _ _ _ _ refl refl refl refl) (started _ _) c.write_head.ensures

pub returns-in_err-write_code : goal.returns-in_err-write_code
returns-in_err-write_code g c = stopped _ _ _ _ _ _ _ _ _ _ c.in_err-write_code.was
    c.from_residual-in_err-write_code.ensures.0 refl
    (went_on _ _ _ _ _ _ _ _ _ c.in_ok-write_head.was
    (parts c.args.version c.args.number c.args.body.now _ _ _ _ c.as_slice.ensures refl refl refl) (started _ _)
    c.write_head.ensures) c.write_code.ensures

pub returns-in_err-write_catches : goal.returns-in_err-write_catches
returns-in_err-write_catches g c = stopped _ _ _ _ _ _ _ _ _ _ c.in_err-write_catches.was
    c.from_residual-in_err-write_catches.ensures.0 refl
    (went_on _ _ _ _ _ _ _ _ _ c.in_ok-write_code.was refl
    (went_on _ _ _ _ _ _ _ _ _ c.in_ok-write_head.was
    (parts c.args.version c.args.number c.args.body.now _ _ _ _ c.as_slice.ensures c.as_slice-2.ensures refl refl)
    (started _ _) c.write_head.ensures) c.write_code.ensures) c.write_catches.ensures

pub returns-in_err-write_pool : goal.returns-in_err-write_pool
returns-in_err-write_pool g c = stopped _ _ _ _ _ _ _ _ _ _ c.in_err-write_pool.was
    c.from_residual-in_err-write_pool.ensures.0 refl
    (went_on _ _ _ _ _ _ _ _ _ c.in_ok-write_catches.was refl
    (went_on _ _ _ _ _ _ _ _ _ c.in_ok-write_code.was refl
    (went_on _ _ _ _ _ _ _ _ _ c.in_ok-write_head.was
    (parts c.args.version c.args.number c.args.body.now _ _ _ _ c.as_slice.ensures c.as_slice-2.ensures
    c.as_slice-3.ensures refl) (started _ _) c.write_head.ensures) c.write_code.ensures) c.write_catches.ensures)
    c.write_pool.ensures

pub returns : goal.returns
returns g c = ended _ _ _ _ _ _ _ refl
    (went_on _ _ _ _ _ _ _ _ _ c.in_ok-write_pool.was refl
    (went_on _ _ _ _ _ _ _ _ _ c.in_ok-write_catches.was refl
    (went_on _ _ _ _ _ _ _ _ _ c.in_ok-write_code.was refl
    (went_on _ _ _ _ _ _ _ _ _ c.in_ok-write_head.was
    (parts c.args.version c.args.number c.args.body.now _ _ _ _ c.as_slice.ensures c.as_slice-2.ensures
    c.as_slice-3.ensures c.as_slice-4.ensures) (started _ _) c.write_head.ensures) c.write_code.ensures)
    c.write_catches.ensures) c.write_pool.ensures) c.write_symbols.ensures
