-- A word has at most 64 ones, so the sum fits, and the four words' ones are the numbers in the set.
use Rattle.std.proofs.Common.{rules, ◌≡◌, ◌∙◌, ◌<◌, ◌^◌, sum_by}
use lib.Count.{ones}
use Rattle.catalogue.specs.Workers.{met_count}
use Rattle.workers.proofs.Ones.{ones_fit, ones_count, ones_same}
use Rattle.workers.proofs.met.met_count.Goals as goal

pub sum-requires-clause-fits : goal.sum-requires-clause-fits
sum-requires-clause-fits c =
    let words = c.iter.result.rest.now in
    let few : sum_by ones words < 2 ^ 32 = ones_fit words (search rules) (search rules) (search rules) (search rules) (search rules) in
    search rules

pub returns : goal.returns
returns c =
    let words = c.iter.result.rest.now in
    let sum : c.sum.result ≡ sum_by ones words = search rules in
    let own : sum_by ones c.args.met ≡ met_count c.args.met = ones_count c.args.met (search rules) (search rules) (search rules) (search rules) (search rules) in
    sum ∙ ones_same words c.args.met (search rules) (search rules) (search rules) (search rules) (search rules) own (search rules)
