-- What the code has of a run so far: lent memory, the lines of the replies, and its state, against the running of
-- the definition.
use Rattle.std.specs.Prelude.{ℕ, ◌<◌, List, [], map, ◌≡◌, ℤ, length, get_or, take}
use Rattle.catalogue.specs.Listing.{ReplyLine, reply_numbers}
use Rattle.catalogue.specs.Numbers.{most_workers}
use Rattle.catalogue.specs.Run.{Running}
use Rattle.catalogue.specs.Text.{lines}
use Rattle.catalogue.specs.Workers.{idle_table}
use Rattle.memory.specs.Memories.{Hold}
use Rattle.script.specs.Checks.{requests_at, share_of}
use Rattle.script.specs.declared.shares.Share.{Share}
use Rattle.run.specs.declared.states.State.{State}

-- the lines of replies
abbrev pub reply_text : List ReplyLine → List ℕ
reply_text replies = lines (map reply_numbers replies)

-- The memory is that of the catalogue, the table is the same, and each worker's requests are read from where its next
-- one stands; the lines stand at the start of their buffer.
pub record Stands (text : List ℕ) (keys : List ℤ) (words told : List ℕ) (s : State) (r : Running) : Type 0 where
  pub held : Hold keys words r.catalogue
  pub manned : s.table ≡ r.table
  pub left : (w : ℕ) → w < length r.left → get_or r.left w [] ≡ requests_at text (share_of s.left w).count (share_of s.left w).start
  pub counted : s.replies ≡ length r.replies
  pub ended : s.end ≡ length (reply_text r.replies)
  pub lined : take s.end told ≡ reply_text r.replies
  pub left_long : length s.left ≡ most_workers

-- before the first turn
abbrev pub begins : ℕ → List Share → State
begins workers left = record { table = idle_table workers; left = left; replies = 0; end = 0 }
