-- A sound list counts no more than its pool, so the sum fits.
use Rattle.survey.proofs.ListLaws.{lists_cases}
use Rattle.survey.proofs.lists.+lists_from.Goals as goal

pub overflow_add-seen : goal.overflow_add-seen
overflow_add-seen t c = search lists_cases

pub lists_from-requires : goal.lists_from-requires
lists_from-requires t c = search lists_cases

pub returns-then-unmarked : goal.returns-then-unmarked
returns-then-unmarked t c = search lists_cases
