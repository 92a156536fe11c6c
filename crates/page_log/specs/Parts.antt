-- What is not settled of a log and of a batch that was taken out of it.
use Rattle.std.specs.Prelude.{◌≡◌, ℕ, ◌+◌, ◌≤◌, Bool, true, false, [], ◌++◌, length, drop, Option, Some, None}
use Rattle.vec_event.specs.Spelling.{spelling}
use Rattle.vec_history.specs.declared.event.Event.{Event}
use Rattle.vec_outside.specs.declared.disks.Area.{Area}
use Rattle.page_log.specs.Going.{Newer, Unsettled, body_of, payload}
use Rattle.page_log.specs.declared.pending.Pending.{Pending}
use Rattle.page_log.specs.declared.log.Log.{Log}

-- a batch that is out, beside newer events
abbrev pub out : Pending → Newer → Unsettled
out pending newer = record {
  area = pending.area;
  at = pending.at;
  bare = pending.bare;
  fixed = pending.fixed;
  body = pending.bytes.items;
  events = pending.events;
  newer = newer;
}

-- the place of the seal behind it
abbrev pub behind : Pending → ℕ
behind pending = pending.at + length pending.bytes.items

-- an area of so many bytes reaches to the seal's place, and behind a batch that is fixed
abbrev pub Reaches : Pending → ℕ → Type 0
Reaches pending len = (pending.at ≤ len) × (pending.fixed ≡ true → behind pending ≤ len)

-- the same of a log
abbrev pub ReachesTo : Unsettled → ℕ → Type 0
ReachesTo log len = (log.at ≤ len) × (log.fixed ≡ true → log.at + length log.body ≤ len)

-- nothing is to be written
abbrev pub IsAllOut : Unsettled → Type 0
IsAllOut log = (log.body ≡ []) × (log.newer.bytes ≡ [])

-- once it is settled
abbrev pub past : Pending → Newer → Unsettled
past pending newer = record { area = pending.area; at = behind pending; bare = false; fixed = false; body = []; events = 0; newer = newer }

-- the events of a log that were not taken out: behind four bytes for their length
abbrev pub newer_of : Log → Newer
newer_of log = record { bytes = drop 4 log.fresh.items; count = log.count; used = log.used }

abbrev pub with_back : Log → Option Pending → Unsettled
with_back log None = record { area = log.area; at = log.end; bare = false; fixed = false; body = []; events = 0; newer = newer_of log }
with_back log (Some pending) = out pending (newer_of log)

abbrev pub unsettled : Log → Unsettled
unsettled log = with_back log log.back

-- with an event more
abbrev pub with_event : Unsettled → Event → Unsettled
with_event log event = record log {
  newer = record {
    bytes = log.newer.bytes ++ spelling event;
    count = log.newer.count + 1;
    used = log.newer.used + (length (spelling event) + 5);
  };
}

-- the same events for the same place
pub record IsSameBatch (old new : Pending) : Type 0 where
  pub bytes : new.bytes ≡ old.bytes
  pub events : new.events ≡ old.events
  pub area : new.area ≡ old.area
  pub at : new.at ≡ old.at

-- A batch that was taken out: a fixed one alone, and else what was put back joined with all newer events.
abbrev pub taken_if : Bool → Unsettled → Unsettled
taken_if true log = log
taken_if false log = record log {
  body = body_of (payload log.body ++ log.newer.bytes);
  events = log.events + log.newer.count;
  newer = record { bytes = []; count = 0; used = log.newer.used };
}

abbrev pub taken : Unsettled → Unsettled
taken log = taken_if log.fixed log

-- a batch is out of a log that has gone on behind it
pub record IsOut (log : Log) (pending : Pending) : Type 0 where
  pub alone : log.back ≡ None
  pub area : pending.area ≡ log.area
  pub end : behind pending ≡ log.end
  pub share : length log.fresh.items + log.count + length pending.bytes.items ≤ log.used
  pub counted : log.count + pending.events ≤ log.used

-- a log with nothing to be written
abbrev pub at_end : Area → ℕ → ℕ → Unsettled
at_end area end used = record {
  area = area;
  at = end;
  bare = false;
  fixed = false;
  body = [];
  events = 0;
  newer = record { bytes = []; count = 0; used = used };
}
