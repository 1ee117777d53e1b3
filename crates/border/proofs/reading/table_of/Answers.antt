-- Each worker of the result is its record read back, and there are eight of them. They are told one by one, whatever was
-- done to the list: so an edit of one is refused for that one.
use Rattle.std.proofs.Common.{rules, ◌≡◌, ℕ, ◌<◌, get_or}
use Rattle.catalogue.specs.Workers.{blank}
use Rattle.border.specs.Kept.{empty, record_at, worker_in}
use Rattle.border.proofs.Tables.{all_eight}
use Rattle.border.proofs.reading.table_of.Goals as goal

pub returns : goal.returns
returns c =
    let items = c.map-workers.ensures.items in
    let long = items.long in
    let at : (n : ℕ) → n < 8 → get_or c.map-workers.result n blank ≡ worker_in (record_at c.args.t n) = λ n low. let called = items.at n empty blank low in search rules in
    let e0 = at 0 (search rules) in
    let e1 = at 1 (search rules) in
    let e2 = at 2 (search rules) in
    let e3 = at 3 (search rules) in
    let e4 = at 4 (search rules) in
    let e5 = at 5 (search rules) in
    let e6 = at 6 (search rules) in
    let e7 = at 7 (search rules) in
    all_eight c.args.t _ (search rules) (search rules) (search rules) (search rules) (search rules) (search rules) (search rules) (search rules) (search rules) (search rules)
