-- What is told of requests in the passes through a routine: where they may be served, and how long one waits (this kit's own).
use Rattle.std.specs.Prelude.{◌≡◌, ◌⊎◌, ℕ, ◌+◌, ◌≤◌, Bool, true, false, ◌==◌, if◌then◌else◌, Option, Some, None, List, [], ◌++◌, codes}
use Rattle.kc_base.specs.Limits.{max_states}
use Rattle.kc_bound.specs.declared.notes.Notes.{Notes}
use Rattle.kc_bound_requests.specs.declared.certificate.EnabledSet.{EnabledSet}
use Rattle.kc_bound_requests.specs.declared.certificate.RequestCertificate.{RequestCertificate}
use Rattle.kc_bound_requests.specs.declared.latency_certificate.LatencyCertificate.{LatencyCertificate}
use Rattle.kc_bound_requests.specs.declared.enabled.TheConstants.{CALLED, ENTERED, INTERRUPTIBLE, AT_RESET}
use Rattle.kc_bound_requests.specs.Closed.{IsClosed, IsLeastOpen}
use Rattle.kc_bound_requests.specs.Latency.{ShowsShut}
use Rattle.kc_kit_words.specs.declared.command.Wanted.{Wanted}
use Rattle.kc_kit_bound.specs.Texts.{at_text, states_line}

-- ---- what may be allowed where a pass begins

-- as an interrupt has entered the routine, where that is asked for, else as it is called
abbrev pub first_of : Wanted → EnabledSet
first_of wanted = if wanted.entered then ENTERED else CALLED

-- The same for latency. What is called is that of a main program: after a reset nothing is allowed, and elsewhere interrupts are.
abbrev pub latency_first : Wanted → ℕ → EnabledSet
latency_first wanted from = if wanted.entered then ENTERED else if from == 0x2080 then AT_RESET else INTERRUPTIBLE

-- ---- where requests may be served

-- the least address where a request other than NMI may be
abbrev pub open_text : Option ℕ → List ℕ
open_text None = []
open_text (Some a) = codes "open" ++ at_text a ++ codes "\n"

-- a certificate shows it, or that there is none
pub record IsOpenText (image : List ℕ) (notes : Notes) (from : ℕ) (first : EnabledSet) (text : List ℕ) : Type 0 where
  pub certificate : RequestCertificate
  pub least : Option ℕ
  pub closed : IsClosed image notes from first certificate
  pub is_least : IsLeastOpen image notes from certificate least
  pub printed : text ≡ open_text least

-- ---- how long interrupts are not asked for, and how long one waits

-- the most states of the entry of an interrupt
abbrev pub entry_states : ℕ
entry_states = 14

-- the most states that go by without interrupts being asked for, and until the routine of one begins
abbrev pub shut_text : ℕ → ℕ → List ℕ
shut_text from most = states_line (codes "shut") from most ++ states_line (codes "latency") from (most + entry_states)

-- a certificate shows them, at most the longest run
pub record IsShutText (image : List ℕ) (notes : Notes) (from : ℕ) (first : EnabledSet) (text : List ℕ) : Type 0 where
  pub certificate : LatencyCertificate
  pub most : ℕ
  pub shows : ShowsShut image notes from first certificate most
  pub limit : most ≤ max_states
  pub printed : text ≡ shut_text from most

-- where no certificate is found
abbrev pub no_shut : ℕ → List ℕ
no_shut from = codes "shut" ++ at_text from ++ codes " none\n"

-- where that is asked for
abbrev pub IsLatencyText : Bool → List ℕ → Notes → ℕ → EnabledSet → List ℕ → Type 0
IsLatencyText true image notes from first text = IsShutText image notes from first text ⊎ (text ≡ no_shut from)
IsLatencyText false image notes from first text = text ≡ []
