-- The array of closed switches agrees with the row's closed switches below r, and the arrays with the lists that are read, so the
-- two searches give the same on both; a free row is right in any case. Assumes nothing.
use Rattle.std.specs.Prelude.{◌≡◌, ℕ, ◌<◌, get_or}
use Rattle.request.specs.Numbers.{Good}
use Rattle.request.specs.declared.Request.{Request}
use Rattle.rows.specs.Rows.{literal_on, literal_value}
use Rattle.rows.proofs.RowsLaws.{literal_there}
use Rattle.network.specs.Check.{shut_at, fitting}
use Rattle.network.specs.declared.Network.{Network}
use Rattle.network.proofs.CheckLaws.{fitting_literals, right_on, right_off, right_free}
use mathlib.Core.Path.{sym, ◌∙◌}
use mathlib.Core.Bool.{Bool, true}
use Prim.Native.Nat.{◌^◌}
use Rattle.network_check.proofs.row_right.Goals as goal

-- below r the literals are there
closed : (q : Request) (w : Network) (k : ℕ) (shut : ℕ → Bool) → Good q → fitting q w ≡ true → k < 2 ^ q.n
    → ((s : ℕ) → s < q.r → shut s ≡ literal_value q.n k (get_or w.literals s 0))
    → (s : ℕ) → s < q.r → shut s ≡ literal_on q.n k (get_or w.literals s 0)
closed q w k shut good form row is s l =
    is s l ∙ literal_there q.n k (get_or w.literals s 0) good.n_low good.n_high row (fitting_literals q w form s l)

pub returns-in-On : goal.returns-in-On
returns-in-On c =
    let nets = c.on_row-nets in
    let q = c.args.q.request in
    (rw (nets.ensures.size, nets.ensures.labels) at c.near_source.ensures)
    ∙ right_on q c.args.w c.args.k (shut_at nets.result.shut)
    (closed q c.args.w c.args.k (shut_at nets.result.shut) c.args.q.good c.requires.0 c.requires.1 nets.ensures.shut)
    (sym c.in-On.is ∙ c.row_kind.ensures)

pub returns-in-Off : goal.returns-in-Off
returns-in-Off c =
    let nets = c.on_row-nets in
    let q = c.args.q.request in
    (rw (nets.ensures.size, nets.ensures.labels) at c.kept_apart.ensures)
    ∙ right_off q c.args.w c.args.k (shut_at nets.result.shut)
    (closed q c.args.w c.args.k (shut_at nets.result.shut) c.args.q.good c.requires.0 c.requires.1 nets.ensures.shut)
    (sym c.in-Off.is ∙ c.row_kind.ensures)

pub returns-in-Free : goal.returns-in-Free
returns-in-Free c = right_free _ _ _ (sym c.in-Free.is ∙ c.row_kind.ensures)
