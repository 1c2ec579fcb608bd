-- The machine, and what it does in one state time (80C196KC User's Manual, "Interrupts", "Peripheral Transaction Server", "Idle
-- and Powerdown Modes"; the states of activities and the moment of their accesses are this kit's own).
use Rattle.std.specs.Prelude.{ℕ, zero, suc, ◌+◌, ◌-◌, ◌*◌, ◌%◌, Bool, true, false, ◌||◌, not, List, [], ◌∷◌, ◌++◌, Option, Some, None, Result, Ok, Err, if◌then◌else◌, ◌==◌, nat_lt, slice_index, replicate}
use Rattle.kc_base.specs.declared.types.Kind.{Kind}
use Rattle.kc_base.specs.declared.types.Kind.TheVariants.{OutsideMap, Opcode}
use Rattle.kc_base.specs.declared.types.Undefined.{Undefined}
use Rattle.kc_base.specs.Limits.{image_start, register_file_end}
use Rattle.kc_isa.specs.declared.insn.Insn.{Insn}
use Rattle.kc_isa.specs.declared.insn.Place.{Place}
use Rattle.kc_isa.specs.declared.table.Mnemonic.{Mnemonic}
use Rattle.kc_isa.specs.declared.table.Mnemonic.TheVariants.{Trap}
use Rattle.kc_isa.specs.Names.{mnemonic_at}
use Rattle.kc_isa.specs.Formed.{states_of}
use Rattle.kc_code.specs.declared.reader.Decoded.{Decoded}
use Rattle.kc_code.specs.declared.reader.Decoded.TheVariants as says
use Rattle.kc_code.specs.Reading.{decode_of}
use Rattle.kc_exec_spec.specs.declared.cpu.Cpu.{Cpu}
use Rattle.kc_exec_spec.specs.declared.cpu.After.{After}
use Rattle.kc_exec_spec.specs.declared.cpu.After.TheVariants as after
use Rattle.kc_exec_spec.specs.Status.{has}
use Rattle.kc_exec_spec.specs.Memory.{is_hole}
use Rattle.kc_exec_spec.specs.Effect.{Outcome, Done, Refused, run}
use Rattle.kc_exec_spec.specs.Effects.{effect_of}
use Rattle.kc_exec_spec.specs.Jumping.{next_pc}
use Rattle.kc_exec_spec.specs.BlockMoves.{moved_word, word_states_of}
use Rattle.kc_exec_spec.specs.Entering.{vector_at, entry, opcode_trap, entry_states}
use Rattle.kc_exec_spec.specs.Places.{place_of}
use Rattle.kc_intc.specs.declared.requests.Choice.{Choice}
use Rattle.kc_intc.specs.declared.requests.Choice.TheVariants as choice
use Rattle.kc_intc.specs.Choosing.{choice_of}
use Rattle.kc_intc.specs.Sets.{without}
use Rattle.kc_intc.specs.Changes.{entered_of, ended_of}
use Rattle.kc_intc.specs.declared.requests.Requests.{Requests}
use Rattle.kc_pts.specs.declared.cycle.Cycle.{Cycle}
use Rattle.kc_pts.specs.Cycles as pts
use Rattle.kc_trace.specs.declared.record.Record.{Record}
use Rattle.kc_trace.specs.declared.record.Record.TheVariants.{Undef, Entered, Served}
use Rattle.kc_machine_spec.specs.declared.doing.Activity.{Activity}
use Rattle.kc_machine_spec.specs.declared.doing.Activity.TheVariants.{Executes, MovesWord, Traps, Enters, SetsUp, Transfers, Idles, Breaks}
use Rattle.kc_machine_spec.specs.declared.doing.Going.{Going}
use Rattle.kc_machine_spec.specs.declared.doing.Going.TheVariants.{Moving, Idling, Serving}
use Rattle.kc_machine_spec.specs.declared.doing.End.{End}
use Rattle.kc_machine_spec.specs.declared.doing.End.TheVariants as end
use Rattle.kc_machine_spec.specs.declared.doing.Next.{Next}
use Rattle.kc_machine_spec.specs.declared.doing.UnderWay.{UnderWay}
use Rattle.kc_stim.specs.Drives.{Drives}
use Rattle.kc_extra.specs.Further.{Further}
use Rattle.kc_block_spec.specs.Units.{Units}
use Rattle.kc_block_spec.specs.Tick.{tick}
use Rattle.kc_block_spec.specs.Touch.{touched}
use Rattle.kc_block_spec.specs.Writing.{with_requests}
use Rattle.kc_block_spec.specs.Start.{first_units}
use Rattle.kc_machine_spec.specs.Board.{Board, masks_of, pins, word_at}
use Rattle.kc_machine_spec.specs.Scene.{Scene, opened, byte, scene_meaning}

-- the board with its processor at the start of a state
pub record Machine (X : Type 0) : Type 0 where
  pub time : ℕ
  pub board : Board X
  pub cpu : Cpu
  -- the next activity is an instruction
  pub held : Bool
  -- what goes on between activities
  pub going : Option Going
  pub under_way : Option UnderWay
  pub ended : Option End

-- a machine, what was printed on the way to it, and the touch of that way: the units that its Ticks have touched, and one for
-- each byte of an access that has reached a unit
pub record Stepped (X : Type 0) : Type 0 where
  pub machine : Machine X
  pub records : List Record
  pub touch : ℕ

-- the scene of a state before the accesses
abbrev pub scene_of : {X : Type 0} → Machine X → Scene X
scene_of machine = opened machine.time machine.board

-- an instruction may be fetched from here
abbrev pub can_fetch : ℕ → Bool
can_fetch addr = not (nat_lt addr register_file_end || is_hole addr)

-- the bytes from an address on, at most so many, up to the first that can't be fetched
unfoldable pub fetched : ℕ → List ℕ → ℕ → List ℕ
fetched zero memory addr = []
fetched (suc more) memory addr =
    if can_fetch addr then slice_index memory addr ∷ fetched more memory ((addr + 1) % 0x10000) else []

-- an undefined use that is found at the start takes two states
abbrev pub breaks : Kind → UnderWay
breaks kind = record { doing = Breaks kind; left = 2 }

-- an instruction whose states are counted by its place, or whose place is refused
abbrev pub placed : Insn → Result Place Kind → UnderWay
placed insn (Ok place) = record { doing = Executes insn; left = states_of insn place }
placed insn (Err kind) = breaks kind

abbrev pub pushing_states : {X : Type 0} → Machine X → ℕ
pushing_states machine = entry_states (word_at machine.board.memory 0x18)

-- the activity that begins with what was fetched
abbrev pub begins : {X : Type 0} → Machine X → Decoded → UnderWay
begins machine (says.Insn insn length) = placed insn (place_of insn machine.cpu (masks_of machine.board.units) (byte (scene_of machine)))
begins machine says.Unimplemented = record { doing = Traps; left = pushing_states machine }
begins machine says.Undefined = breaks Opcode
begins machine says.Short = breaks OutsideMap

-- the next instruction
unfoldable pub fetches : {X : Type 0} → Machine X → UnderWay
fetches machine = begins machine (decode_of (fetched 7 machine.board.memory machine.cpu.pc))

-- an entry through the vector of a number
abbrev pub enters : {X : Type 0} → Machine X → ℕ → UnderWay
enters machine number = record { doing = Enters number; left = pushing_states machine }

-- the setup of a cycle of the transfer server
abbrev pub sets_up : ℕ → UnderWay
sets_up number = record { doing = SetsUp number; left = pts.setup_states }

-- the next word, an idle state, the next transfer, or the next instruction
abbrev pub goes_on : {X : Type 0} → Machine X → Option Going → UnderWay
goes_on machine (Some (Moving insn words)) = record { doing = MovesWord insn words; left = word_states_of words }
goes_on machine (Some Idling) = record { doing = Idles; left = 1 }
goes_on machine (Some (Serving number cycle)) = record { doing = Transfers number cycle; left = pts.states_of cycle.mode }
goes_on machine None = fetches machine

-- no request is asked for before the next word of a BMOV, and before the next transfer
abbrev pub goes_first : Option Going → Bool
goes_first (Some (Moving insn words)) = not words.interruptible
goes_first (Some (Serving number cycle)) = true
goes_first _ = false

-- what the requests choose
abbrev pub asked : {X : Type 0} → Machine X → Choice
asked machine = choice_of (has 4 machine.cpu.psw_high) (has 2 machine.cpu.psw_high) machine.board.units.board_registers.requests

-- an entry, a cycle of the transfer server, or what goes on
abbrev pub serves : {X : Type 0} → Machine X → Choice → UnderWay
serves machine choice.Nmi = enters machine 15
serves machine (choice.Enter n) = enters machine n
serves machine (choice.Transfer n) = sets_up n
serves machine choice.Go = goes_on machine machine.going

-- the activity that comes next
unfoldable pub chosen : {X : Type 0} → Machine X → UnderWay
chosen machine =
    if goes_first machine.going then goes_on machine machine.going
    else if machine.held then fetches machine
    else serves machine (asked machine)

abbrev pub current_of : {X : Type 0} → Machine X → Option UnderWay → UnderWay
current_of machine (Some activity) = activity
current_of machine None = chosen machine

-- the activity that has the coming state
abbrev pub current : {X : Type 0} → Machine X → UnderWay
current machine = current_of machine machine.under_way

-- anything may come, or an instruction has to come
abbrev pub free : Next
free = record { held = false; going = None; ended = None }

abbrev pub holding : Next
holding = record { held = true; going = None; ended = None }

abbrev pub idling : Next
idling = record { held = false; going = Some Idling; ended = None }

abbrev pub serving : ℕ → Cycle → Next
serving number cycle = record { held = false; going = Some (Serving number cycle); ended = None }

-- after an instruction, or after a word of it
abbrev pub next_after : Insn → After → Next
next_after insn after.Next = free
next_after insn after.Held = holding
next_after insn after.Idle = idling
next_after insn after.Powerdown = record { held = false; going = None; ended = Some end.Powerdown }
next_after insn after.Reset = record { held = false; going = None; ended = Some end.Reset }
next_after insn (after.MoreWords words) = record { held = false; going = Some (Moving insn words); ended = None }

-- the end of an activity: the state is over, and the edges of its accesses stand before its own records
abbrev pub closed : {X : Type 0} → Machine X → Scene X → Cpu → Next → List Record → Stepped X
closed machine scene cpu next records = record {
  machine = record { time = machine.time + 1; board = scene.board; cpu = cpu; held = next.held; going = next.going; under_way = None; ended = next.ended };
  records = pins machine.time scene.edges ++ records;
  touch = scene.reached;
}

-- an undefined use in this state, reported at an address, with the access that the scene has refused
abbrev pub broken : {X : Type 0} → Machine X → Scene X → ℕ → Kind → Stepped X
broken machine scene addr kind =
    let what : Undefined = record { kind = kind; at = machine.time; addr = addr } in
    closed machine scene machine.cpu (record { held = machine.held; going = machine.going; ended = Some (end.Undefined what scene.refused) }) (Undef what ∷ [])

abbrev pub is_trap : Option Mnemonic → Bool
is_trap (Some Trap) = true
is_trap _ = false

-- TRAP is printed as an entry
abbrev pub own_records : ℕ → ℕ → Insn → List Record
own_records time pc insn = if is_trap (mnemonic_at insn.opcode insn.signed) then Entered time 16 (next_pc insn pc) ∷ [] else []

-- after the accesses of an instruction, or of a word of it
abbrev pub settled : {X : Type 0} → Machine X → Insn → List Record → Outcome (After × Cpu) (Scene X) → Stepped X
settled machine insn records (Done done scene) = closed machine scene done.1 (next_after insn done.0) records
settled machine insn records (Refused kind scene) = broken machine scene machine.cpu.pc kind

-- the board with other requests
abbrev pub with_asked : {X : Type 0} → (Requests → Requests) → Scene X → Scene X
with_asked change scene =
    let units = with_requests scene.board.units (change scene.board.units.board_registers.requests) in
    record scene { board = record { units = units; memory = scene.board.memory } }

-- an entry takes its request away
abbrev pub taken : {X : Type 0} → ℕ → Scene X → Scene X
taken number scene = with_asked (entered_of number) scene

abbrev pub at_pc : {X : Type 0} → Machine X → ℕ → Cpu
at_pc machine pc = record { pc = pc; psw_high = machine.cpu.psw_high }

-- after the accesses of an entry
abbrev pub entered : {X : Type 0} → Machine X → ℕ → Outcome ℕ (Scene X) → Stepped X
entered machine number (Done pc scene) = closed machine (taken number scene) (at_pc machine pc) holding (Entered machine.time number machine.cpu.pc ∷ [])
entered machine number (Refused kind scene) = broken machine scene machine.cpu.pc kind

-- after the accesses of the trap of an opcode that no instruction has
abbrev pub trapped : {X : Type 0} → Machine X → Outcome ℕ (Scene X) → Stepped X
trapped machine (Done pc scene) = closed machine scene (at_pc machine pc) holding (Entered machine.time 17 ((machine.cpu.pc + 1) % 0x10000) ∷ [])
trapped machine (Refused kind scene) = broken machine scene machine.cpu.pc kind

-- a cycle that is set up takes its pending request away
abbrev pub claimed : {X : Type 0} → ℕ → Scene X → Scene X
claimed number scene = with_asked (λ r. record r { pending = without number r.pending }) scene

-- after the accesses of a setup; an undefined use of the transfer server is reported at the vector of its request
abbrev pub prepared : {X : Type 0} → Machine X → ℕ → Outcome Cycle (Scene X) → Stepped X
prepared machine number (Done cycle scene) = closed machine (claimed number scene) machine.cpu (serving number cycle) []
prepared machine number (Refused kind scene) = broken machine scene (pts.vector_of number) kind

-- a cycle whose count has come to 0 hands its request to the interrupt
abbrev pub handed : {X : Type 0} → ℕ → ℕ → Scene X → Scene X
handed number count scene = if count == 0 then with_asked (ended_of number) scene else scene

-- after a transfer: the cycle goes on, or it has ended with this count, and nothing goes on
abbrev pub cycled : {X : Type 0} → Machine X → ℕ → Cycle → Option ℕ → Scene X → Stepped X
cycled machine number cycle None scene = closed machine scene machine.cpu (serving number cycle) []
cycled machine number cycle (Some count) scene = closed machine (handed number count scene) machine.cpu free (Served machine.time number cycle.mode count ∷ [])

-- after the accesses of a transfer
abbrev pub transferred : {X : Type 0} → Machine X → ℕ → Outcome (Cycle × Option ℕ) (Scene X) → Stepped X
transferred machine number (Done done scene) = cycled machine number done.0 done.1 scene
transferred machine number (Refused kind scene) = broken machine scene (pts.vector_of number) kind

-- an activity in another state, after the Tick of that state
abbrev pub waiting : {X : Type 0} → UnderWay → Machine X → Stepped X
waiting activity machine = record {
  machine = record machine { time = machine.time + 1; under_way = Some (record activity { left = activity.left - 1 }) };
  records = [];
  touch = 0;
}

-- these records and this touch come before
abbrev pub before : {X : Type 0} → List Record → ℕ → Stepped X → Stepped X
before records cost stepped = record { machine = stepped.machine; records = records ++ stepped.records; touch = cost + stepped.touch }

-- the machine with other units
abbrev pub with_units : {X : Type 0} → Machine X → Units X → Machine X
with_units machine units = record machine { board = record machine.board { units = units } }

module _ {X : Type 0} (f : Further X) where
  -- an activity in its last state, after the Tick of that state
  unfoldable pub finished : Activity → Machine X → Stepped X
  finished (Executes insn) machine = settled machine insn (own_records machine.time machine.cpu.pc insn) (run (scene_meaning f) (effect_of insn machine.cpu) (scene_of machine))
  finished (MovesWord insn words) machine = settled machine insn [] (run (scene_meaning f) (moved_word insn words machine.cpu) (scene_of machine))
  finished Traps machine = trapped machine (run (scene_meaning f) (opcode_trap machine.cpu.pc) (scene_of machine))
  finished (Enters number) machine = entered machine number (run (scene_meaning f) (entry (vector_at number) machine.cpu.pc) (scene_of machine))
  finished (SetsUp number) machine = prepared machine number (run (scene_meaning f) (pts.set_up number) (scene_of machine))
  finished (Transfers number cycle) machine = transferred machine number (run (scene_meaning f) (pts.served cycle) (scene_of machine))
  finished Idles machine = closed machine (scene_of machine) machine.cpu idling []
  finished (Breaks kind) machine = broken machine (scene_of machine) machine.cpu.pc kind

  -- one state time with this activity: all units go one state on, and an activity in its last state makes its accesses
  unfoldable pub stepped : Machine X → UnderWay → Stepped X
  stepped machine activity =
      let ticked = tick f machine.time machine.board.units in
      let moved = with_units machine ticked.units in
      before (pins machine.time ticked.edges) (touched f machine.time machine.board.units)
      (if activity.left == 1 then finished activity.doing moved else waiting activity moved)

  -- one state time of a machine that lives: an activity begins where none is under way
  abbrev pub step : Machine X → Stepped X
  step machine = stepped machine (current machine)

-- the memory of an image: all bytes below it are 0
unfoldable pub memory_of : List ℕ → List ℕ
memory_of image = replicate image_start 0 ++ image

-- the machine of an image at state 0, with these stimuli and wires and these data of the further unit
abbrev pub start : {X : Type 0} → List ℕ → Drives → X → Machine X
start image drives further = record {
  time = 0;
  board = record { units = first_units drives further; memory = memory_of image };
  cpu = record { pc = 0x2080; psw_high = 0 };
  held = false;
  going = None;
  under_way = None;
  ended = None;
}
