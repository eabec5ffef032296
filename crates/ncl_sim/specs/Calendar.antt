-- A calendar queue: what is due soon waits in the list of its time, and the rest in a heap.
--
-- R. Brown, "Calendar queues: a fast O(1) priority queue implementation for the simulation event set problem",
-- Communications of the ACM 31(10), 1988.
use Rattle.std.specs.Prelude.{◌≡◌, ℕ, ◌+◌, ◌%◌, ◌<◌, Bool, true, All, List, [], ◌++◌, length}
use Rattle.std.specs.List.{flat_map, slice_index_or}
use Rattle.std.specs.List.Sorted.{IsSorted}
use Rattle.std.specs.BinaryHeap.{IsHeap}
use Rattle.std.specs.declared.cmp.Ordering.{Ordering}
use Rattle.std.specs.declared.cmp.Reverse.{Reverse}
use Rattle.std.specs.Ordering.{nat_cmp, ordering_then}
use Rattle.ncl_sim.specs.Queue.{IsBefore}

-- events, each a due and a number, turned round so that the first is the greatest
abbrev pub event_cmp : Reverse (ℕ × ℕ) → Reverse (ℕ × ℕ) → Ordering
event_cmp x y = ordering_then (nat_cmp y.0.0 x.0.0) (nat_cmp y.0.1 x.0.1)

-- the event comes before each of the others, or is it
abbrev pub ComesBeforeAll : Reverse (ℕ × ℕ) → List (Reverse (ℕ × ℕ)) → Type 0
ComesBeforeAll e others = All (λ other. IsBefore e.0 other.0) others

-- due at this time, and after it
abbrev pub IsDueAt : ℕ → Reverse (ℕ × ℕ) → Type 0
IsDueAt time e = e.0.0 ≡ time

abbrev pub IsDueAfter : ℕ → Reverse (ℕ × ℕ) → Type 0
IsDueAfter time e = time < e.0.0

-- ---- the wheel: one list for each of the 63 times to come, which go round 64 lists

abbrev pub list_at : List (List (Reverse (ℕ × ℕ))) → ℕ → List (Reverse (ℕ × ℕ))
list_at lists slot = slice_index_or lists slot []

-- due within the 63 units after this time: while the wheel is there, it has a list for it
abbrev pub IsSoon : ℕ → ℕ → Type 0
IsSoon time due = (time < due) × (due < time + 64)

-- the events of all lists
abbrev pub joined : List (List (Reverse (ℕ × ℕ))) → List (Reverse (ℕ × ℕ))
joined lists = flat_map (λ l. l) lists

-- the event belongs in this list while the wheel is at this time
pub record IsDueIn (time slot : ℕ) (e : Reverse (ℕ × ℕ)) : Type 0 where
  pub later : time < e.0.0
  pub soon : e.0.0 < time + 64
  pub own : e.0.0 % 64 ≡ slot

-- each event stands in the list of its due; where the wheel is idle, no list has any
pub record IsWheel (time : ℕ) (idle : Bool) (lists : List (List (Reverse (ℕ × ℕ)))) : Type 0 where
  pub size : length lists ≡ 64
  pub dues : (slot : ℕ) → All (IsDueIn time slot) (list_at lists slot)
  pub none : idle ≡ true → joined lists ≡ []

-- of the lists that come after this time, the one that stands so far ahead is the first that isn't empty
pub record IsNextList (time ahead : ℕ) (lists : List (List (Reverse (ℕ × ℕ)))) : Type 0 where
  pub from : 0 < ahead
  pub most : ahead < 64
  pub some : 0 < length (list_at lists ((time % 64 + ahead) % 64))
  pub before : (k : ℕ) → 0 < k → k < ahead → list_at lists ((time % 64 + k) % 64) ≡ []

-- a wheel as its time and what waits in its lists
pub record WheelData : Type 0 where
  pub time : ℕ
  pub waiting : List (Reverse (ℕ × ℕ))

-- ---- the queue

-- a calendar as what is left of the list that was opened last, the wheel, and what is in the heap
pub record CalendarData : Type 0 where
  pub opened : List (Reverse (ℕ × ℕ))
  pub wheel : WheelData
  pub others : List (Reverse (ℕ × ℕ))

-- all events of a calendar
abbrev pub all_events : CalendarData → List (Reverse (ℕ × ℕ))
all_events calendar = calendar.opened ++ (calendar.wheel.waiting ++ calendar.others)

-- what was opened is sorted, the first at its end, and due at the time of the wheel; what the wheel has is due after it
pub record IsCalendar (opened : List (Reverse (ℕ × ℕ))) (wheel : WheelData) (heap : List (Reverse (ℕ × ℕ))) : Type 0 where
  pub sorted : IsSorted event_cmp opened
  pub due : All (IsDueAt wheel.time) opened
  pub later : All (IsDueAfter wheel.time) wheel.waiting
  pub in_order : IsHeap event_cmp heap
