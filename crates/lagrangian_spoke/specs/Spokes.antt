-- A Lagrangian spoke and the seat that stands for it: what holds between steps, the call that is
-- due, and where a step leads.

use Rattle.std.specs.Prelude.{◌≡◌, ℕ, ◌+◌, ◌<◌, ◌≤◌, nat_eq, nat_lt, Bool, true, false, List, [], ◌∷◌, ◌++◌, length, slice_index, ℤ, Option, Some, None, int_lt, if◌then◌else◌, ◌⊎◌}
use Rattle.word_codec.specs.Spelling.{reply_words}
use Rattle.sp_model.specs.declared.run.Run.{Run}
use Rattle.run_calls.specs.MultiplierTests.{AreLong}
use Rattle.sp_model.specs.declared.plan.Multipliers.{Multipliers}
use Rattle.run_calls.specs.declared.put.Put.{Put}
use Rattle.put_words.specs.Puts.{Made, put_of}
use Rattle.log_words.specs.Replies.{reply_of}
use Rattle.log_words.specs.declared.log.Answer.{Answer}
use Rattle.log_words.specs.declared.log.Answer.TheVariants.{Reply, Skip}
use Rattle.log_words.specs.declared.log.Backing.{Backing}
use Rattle.log_words.specs.declared.log.Backing.TheVariants.{Lower, Upper}
use Rattle.log_words.specs.declared.log.SpokeEnd.{SpokeEnd}
use Rattle.log_words.specs.declared.log.SpokeKind.TheVariants.{Lagrangian}
use Rattle.log_words.specs.declared.step.SpokeStep.{SpokeStep}
use Rattle.log_words.specs.declared.step.SpokeStep.TheVariants as told
use Rattle.window_words.specs.Views.{OwnsOne, after, pending}
use Rattle.window_words.specs.declared.views.View.{View}
use Rattle.window_words.specs.declared.views.Pending.{Pending}
use Rattle.window_words.specs.declared.views.Call.{Call}
use Rattle.window_words.specs.declared.views.Call.TheVariants as call
use Rattle.stamped_read.specs.Readers.{Reader, due, next, read_told}
use Rattle.stamped_read.specs.declared.read.Read.{Read}
use Rattle.stamped_read.specs.declared.read.Read.TheVariants as read
use Rattle.put_read.specs.Reads.{IsPutAt, ReadsPuts}
use Rattle.lagrangian_spoke.specs.declared.spoke.Best.{Best}
use Rattle.lagrangian_spoke.specs.declared.spoke.Phase.{Phase}
use Rattle.lagrangian_spoke.specs.declared.spoke.Phase.TheVariants.{Asks, Reads, Opens, Writes, Ended}
use Rattle.lagrangian_spoke.specs.declared.spoke.LagrangianSpoke.{LagrangianSpoke}
use Rattle.lagrangian_spoke.specs.Answering.{AreAnswers, HaveNoValue, IsFirstGreatest, IsPut, IsSpentAt, best_reply, last_put, replied}

-- the last put that the spoke read whole
abbrev pub read_last : LagrangianSpoke → ℕ
read_last s = s.reader.reader.last

-- the multipliers of put k of a run
abbrev pub AreOfPut : Run → ℕ → Multipliers → Type 0
AreOfPut run k multipliers =
    (made : Made) × (put_of run k ≡ Some made) × (multipliers ≡ made.put.multipliers)

-- the best is that of the answers, with the multipliers of its put, or there is none
abbrev pub IsBestIf : Bool → Run → List Answer → Best → Type 0
IsBestIf true run answers best = (best_reply answers ≡ Some (best.put, best.value))
    × AreOfPut run best.put best.multipliers
IsBestIf false run answers best = best_reply answers ≡ None

abbrev pub IsBest : Run → List Answer → Best → Type 0
IsBest run answers best = IsBestIf best.found run answers best

-- what a spoke keeps: its kind, what it has answered, room for an answer to each put that is left,
-- and the first best of its replies
pub record IsSpoke (run : Run) (s : LagrangianSpoke) : Type 0 where
  pub kind : s.number < run.options.lagrangian
  pub answers : AreAnswers run s.number s.answers.items
  pub counted : length s.answers.items ≤ last_put s.answers.items
  pub room : length s.answers.items + s.answers.spare ≡ run.options.iterations + 1
  pub best : IsBest run s.answers.items s.best
  pub long : AreLong run s.best.multipliers

-- what the spoke is to write: the reply to the put that it read last, which it hasn't answered
pub record IsReply (run : Run) (s : LagrangianSpoke) : Type 0 where
  pub put : IsPut run (read_last s)
  pub newer : last_put s.answers.items < read_last s
  pub value : reply_of run s.number (read_last s) ≡ Some s.value
  pub read : IsPutAt run (read_last s) s.reader.put

-- no reading is begun
pub record IsAtStart (r : Reader) : Type 0 where
  pub rank : r.rank ≡ 0
  pub begun : r.begun ≡ false

-- what holds in each phase; while it asks or reads, no put behind the last that was read is answered
abbrev pub IsInPhase : Run → LagrangianSpoke → Phase → Type 0
IsInPhase run s Asks = (last_put s.answers.items ≤ read_last s) × IsAtStart s.reader.reader
IsInPhase run s Reads = last_put s.answers.items ≤ read_last s
IsInPhase run s Opens = IsReply run s × IsAtStart s.reader.reader
IsInPhase run s (Writes n) = IsReply run s × IsAtStart s.reader.reader × (n ≤ 3)
IsInPhase run s Ended = (last_put s.answers.items ≤ read_last s) × IsAtStart s.reader.reader

-- the entry that the seat has open
abbrev pub pending_in : Phase → ℕ → Option Pending
pending_in Asks k = None
pending_in Reads k = None
pending_in Opens k = None
pending_in (Writes n) k = Some (pending k n)
pending_in Ended k = None

-- a seat with this view stands for the spoke: it owns the spoke's window alone, where it closed the
-- puts that were replied to; its open entry is the reply that the spoke writes; its reading is the
-- spoke's, and of each rank it has accepted the last put that the spoke read, and the one that it
-- reads where it has that rank's part
pub record StandsFor (run : Run) (v : View) (s : LagrangianSpoke) : Type 0 where
  pub spoke : IsSpoke run s
  pub phase : IsInPhase run s s.phase
  pub owns : OwnsOne v (run.options.ranks + s.number) (replied s.answers.items)
  pub opened : v.pending ≡ pending_in s.phase (read_last s)
  pub reads : ReadsPuts run v s.reader

-- the call that is due: to ask; the next step of the reading; to open the reply, put its words and
-- close it
abbrev pub due_write : ℕ → ℤ → Call
due_write n value =
    if nat_lt n 3 then call.Put (slice_index (reply_words (Some value)) n) else call.Close

abbrev pub due_in : LagrangianSpoke → Phase → Call
due_in s Asks = call.Stopped
due_in s Reads = due s.reader.reader
due_in s Opens = call.Open (read_last s)
due_in s (Writes n) = due_write n s.value
due_in s Ended = call.Stopped

-- a call was made with this answer: what it leaves of the board, and what the seat knows
pub record Calls {X : Type 0} (leaves : X → Call → ℕ → X → Type 0) (view : X → View) (leaders : ℕ)
    (b b' : X) (call : Call) (n : ℕ) : Type 0 where
  pub leaves_it : leaves b call n b'
  pub knows : view b' ≡ after leaders call n (view b)

-- behind a reading: the reply is to be written, or the put is skipped
pub record WillReply (s s' : LagrangianSpoke) : Type 0 where
  pub phase : s'.phase ≡ Opens
  pub answers : s'.answers ≡ s.answers

pub record HasSkipped (s s' : LagrangianSpoke) (k : ℕ) : Type 0 where
  pub phase : s'.phase ≡ Asks
  pub scenario : ℕ
  pub opened : ℕ
  pub answers : s'.answers.items ≡ s.answers.items ++ Skip k scenario opened ∷ []

-- where a step of a reading leads
abbrev pub ReadsOn : LagrangianSpoke → LagrangianSpoke → Read → SpokeStep → Type 0
ReadsOn s s' read.Going step = (step ≡ told.Moved) × (s' ≡ record s { reader = s'.reader })
ReadsOn s s' (read.Again again) step =
    (step ≡ told.Again) × (s' ≡ record s { reader = s'.reader; phase = Asks })
ReadsOn s s' (read.Reading k) step = (step ≡ told.Moved) × (s'.best ≡ s.best)
    × (s'.number ≡ s.number) × (WillReply s s' ⊎ HasSkipped s s' k)

-- the reply is closed: it is an answer
pub record HasReplied (s s' : LagrangianSpoke) : Type 0 where
  pub phase : s'.phase ≡ Asks
  pub number : s'.number ≡ s.number
  pub reader : s'.reader.reader ≡ s.reader.reader
  pub answers : s'.answers.items ≡ s.answers.items ++ Reply (read_last s) (Some s.value) ∷ []

-- where a step leads that puts a word of the reply, as long as words are left, or closes it
abbrev pub WritesOn : Bool → LagrangianSpoke → LagrangianSpoke → ℕ → SpokeStep → Type 0
WritesOn true s s' n step = (step ≡ told.Moved) × (s' ≡ record s { phase = Writes (n + 1) })
WritesOn false s s' n step = (step ≡ told.Replied (read_last s)) × HasReplied s s'

-- a spoke that asked reads where the hub hasn't stopped, and has ended else
abbrev pub asked : ℕ → Phase
asked n = if nat_eq n 0 then Reads else Ended

abbrev pub asked_told : ℕ → SpokeStep
asked_told n = if nat_eq n 0 then told.Asked else told.Ended

-- where a step in this phase leads whose call had this answer, and what it tells
abbrev pub Leads : LagrangianSpoke → LagrangianSpoke → ℕ → Phase → SpokeStep → Type 0
Leads s s' n Asks step = (step ≡ asked_told n) × (s' ≡ record s { phase = asked n })
Leads s s' n Reads step = (s'.reader.reader ≡ next (due s.reader.reader) s.reader.reader n)
    × ReadsOn s s' (read_told (due s.reader.reader) s.reader.reader n) step
Leads s s' n Opens step = (step ≡ told.Moved) × (s' ≡ record s { phase = Writes 0 })
Leads s s' n (Writes m) step = WritesOn (nat_lt m 3) s s' m step
Leads s s' n Ended step = ⊥

-- what was answered so far stays, and the best of it
pub record KeepsAnswers (s s' : LagrangianSpoke) : Type 0 where
  pub number : s'.number ≡ s.number
  pub phase : s'.phase ≡ s.phase
  pub answers : s'.answers ≡ s.answers
  pub best : s'.best ≡ s.best

-- memory can be refused only behind a reading that is answered; its put isn't answered then
pub record IsRefusedReading (s s' : LagrangianSpoke) (n : ℕ) : Type 0 where
  pub phase : s.phase ≡ Reads
  pub put : ℕ
  pub answered : read_told (due s.reader.reader) s.reader.reader n ≡ read.Reading put
  pub reader : s'.reader.reader ≡ next (due s.reader.reader) s.reader.reader n
  pub keeps : KeepsAnswers s s'

-- a seat that owns window w alone, has closed nothing there and has nothing open, with a list for
-- what it accepts of each leader
pub record IsNewSeat (leaders w : ℕ) (v : View) : Type 0 where
  pub owns : OwnsOne v w []
  pub free : v.pending ≡ None
  pub wide : leaders ≤ length v.accepted

-- the multipliers of put k are there, it isn't answered yet, and there is room for its answer
pub record IsToAnswer (run : Run) (s : LagrangianSpoke) (k : ℕ) : Type 0 where
  pub made : Made
  pub made_is : put_of run k ≡ Some made
  pub multipliers : s.reader.put.multipliers ≡ made.put.multipliers
  pub is_put : IsPut run k
  pub room : 0 < s.answers.spare
  pub kind : s.number < run.options.lagrangian

-- a step of the spoke leaves its number, its reader and its best as they were
pub record Keeps (s s' : LagrangianSpoke) : Type 0 where
  pub number : s'.number ≡ s.number
  pub reader : s'.reader ≡ s.reader
  pub best : s'.best ≡ s.best

-- the reply to put k is to be written
pub record IsFound (run : Run) (s s' : LagrangianSpoke) (k : ℕ) : Type 0 where
  pub phase : s'.phase ≡ Opens
  pub answers : s'.answers ≡ s.answers
  pub value : reply_of run s.number k ≡ Some s'.value

-- put k is skipped
pub record IsSkipped (run : Run) (s s' : LagrangianSpoke) (k : ℕ) : Type 0 where
  pub phase : s'.phase ≡ Asks
  pub scenario : ℕ
  pub opened : ℕ
  pub answers : s'.answers.items ≡ s.answers.items ++ Skip k scenario opened ∷ []
  pub spare : s'.answers.spare + 1 ≡ s.answers.spare
  pub spent : IsSpentAt run k scenario opened

-- the answer to put k is worked out: a reply is found, or the put is skipped
abbrev pub IsWorkedOut : Run → LagrangianSpoke → LagrangianSpoke → ℕ → Bool → Type 0
IsWorkedOut run s s' k true = Keeps s s' × IsFound run s s' k
IsWorkedOut run s s' k false = Keeps s s' × IsSkipped run s s' k

-- whether a value is better than the best so far
abbrev pub is_better : Best → ℤ → Bool
is_better best value = if best.found then int_lt best.value value else true

-- the best after a reply, and the multipliers that the reader is left with: where the reply is
-- better they change places
abbrev pub best_after : Bool → LagrangianSpoke → ℕ → Best
best_after is s k =
    if is then record {
      found = true;
      put = k;
      value = s.value;
      multipliers = s.reader.put.multipliers;
    } else s.best

abbrev pub left_after : Bool → LagrangianSpoke → Multipliers
left_after is s = if is then s.best.multipliers else s.reader.put.multipliers

-- the reply to put k is taken among the answers, and the first best is kept
pub record Records (s s' : LagrangianSpoke) (k : ℕ) : Type 0 where
  pub number : s'.number ≡ s.number
  pub phase : s'.phase ≡ s.phase
  pub items : s'.answers.items ≡ s.answers.items ++ Reply k (Some s.value) ∷ []
  pub spare : s'.answers.spare + 1 ≡ s.answers.spare
  pub best : s'.best ≡ best_after (is_better s.best s.value) s k
  pub reader : s'.reader.reader ≡ s.reader.reader
  pub layout : s'.reader.layout ≡ s.reader.layout
  pub x : s'.reader.put.x ≡ s.reader.put.x
  pub left : s'.reader.put.multipliers ≡ left_after (is_better s.best s.value) s

-- a spoke that has answered nothing and is about to ask
pub record IsFresh (number : ℕ) (s : LagrangianSpoke) : Type 0 where
  pub number_is : s.number ≡ number
  pub phase : s.phase ≡ Asks
  pub answers : s.answers.items ≡ []
  pub best : s.best.found ≡ false

-- no reply yet, and room for the multipliers of one
pub record IsNoBest (run : Run) (best : Best) : Type 0 where
  pub found : best.found ≡ false
  pub long : AreLong run best.multipliers

-- the put of a run that has this number
pub record IsPutOf (run : Run) (put : Put) : Type 0 where
  pub made : Made
  pub made_is : put_of run put.number ≡ Some made
  pub put_is : put ≡ made.put
  pub number : IsPut run put.number

-- a put was answered behind the end: nothing is changed where it was the last, and otherwise one
-- answer more is there, to it
pub record HasFinished (run : Run) (s s' : LagrangianSpoke) (k : ℕ) : Type 0 where
  pub spoke : IsSpoke run s'
  pub phase : s'.phase ≡ Ended
  pub number : s'.number ≡ s.number
  pub last : last_put s'.answers.items ≡ k
  pub same : last_put s.answers.items ≡ k → s' ≡ s
  pub more : last_put s.answers.items < k
      → (a : Answer) × (s'.answers.items ≡ s.answers.items ++ a ∷ [])

-- memory can be refused only where put k isn't answered yet, and then it stays unanswered
pub record IsRefusedPut (s s' : LagrangianSpoke) (k : ℕ) : Type 0 where
  pub newer : last_put s.answers.items < k
  pub reader : s'.reader.reader ≡ s.reader.reader
  pub keeps : KeepsAnswers s s'

-- what an ended spoke leaves: its answers, and its best where there is one
abbrev pub backing_of : Best → Option Backing
backing_of best = if best.found
    then Some (Lower best.put best.value best.multipliers) else None

pub record IsEnd (s : LagrangianSpoke) (left : SpokeEnd) : Type 0 where
  pub kind : left.log.kind ≡ Lagrangian
  pub answers : left.log.answers ≡ s.answers.items
  pub best : left.best ≡ backing_of s.best

-- what backs the best reply among some answers: the first greatest value, with its put and that
-- put's multipliers; nothing where no reply has a value
abbrev pub BacksBest : Run → List Answer → Option Backing → Type 0
BacksBest run answers None = HaveNoValue answers
BacksBest run answers (Some (Lower k value multipliers)) =
    IsFirstGreatest answers k value × AreOfPut run k multipliers
BacksBest run answers (Some (Upper k value plan)) = ⊥
