-- What the reader's counters and digits leave room for: one more of each. No invariant of the reader, since
-- each byte uses some of it up: the loop over the listing shows it anew from the bytes that are left.
use Rattle.std.specs.Prelude.{◌+◌, ◌-◌, ◌^◌, ◌<◌, slice_index_or}
use Rattle.grammar.specs.Scan.{grown}
use Rattle.reader.specs.declared.open.State.{State}
use Rattle.reader.specs.declared.open.State.TheVariants as state
use Rattle.reader.specs.declared.reader.Reader.{Reader}
use Rattle.reader.specs.View.{no_open}

-- a first hexadecimal digit that waits for its second is below 16
abbrev pub High : State → Type 0
High state.Before = Unit {0}
High state.Opened = Unit {0}
High (state.Word w) = Unit {0}
High state.Named = Unit {0}
High state.Starting = Unit {0}
High state.Start = Unit {0}
High state.Started = Unit {0}
High state.Flags = Unit {0}
High state.Flagged = Unit {0}
High state.Text = Unit {0}
High state.Escape = Unit {0}
High (state.Hex h) = h < 16
High state.Inside = Unit {0}
High state.After = Unit {0}

pub record Room (r : Reader) : Type 0 where
  pub nodes : r.nodes + 1 < 2 ^ 64
  pub bytes : r.bytes + 1 < 2 ^ 64
  pub children : 0 < r.depth → (slice_index_or r.stack (r.depth - 1) no_open).row.children + 1 < 2 ^ 64
  pub length : 0 < r.depth → (grown (slice_index_or r.stack (r.depth - 1) no_open).row.text).length < 2 ^ 64
  pub high : High r.state
