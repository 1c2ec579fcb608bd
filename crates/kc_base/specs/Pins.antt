-- The pins by their numbers: the table of `src/pins.rt`, and what it says of each.
use Rattle.std.specs.Prelude.{◌≡◌, ℕ, ◌<◌, Bool, List, [], ◌∷◌, codes, slice_index_or, map}
use Rattle.kc_base.specs.declared.pins.Facts.{Facts}
use Rattle.kc_base.specs.declared.pins.TheConstants.{PINS, PIN_COUNT, NO_FACTS}
use Rattle.kc_base.specs.declared.types.TheConstants.Pin.{HSI0, HSI1, HSI2, HSI3, T2CLK, T2RST, EXTINT, NMI, T2UD, T2CAP, P07, TXD, RXD, PWM0, PWM1, PWM2}

-- how many pins have a name
abbrev pub pin_count : ℕ
pin_count = PIN_COUNT

-- the pins that have a name
abbrev pub IsPin : ℕ → Type 0
IsPin n = n < pin_count

abbrev pub pin_names : List (List ℕ)
pin_names = map (λ row. row.0.now) PINS

-- the name of a pin by its number
abbrev pub pin_name : ℕ → List ℕ
pin_name n = slice_index_or pin_names n []

unfoldable pub pin_facts : List Facts
pin_facts = map (λ row. row.1) PINS

-- what holds of a pin; nothing of a number without a name
abbrev pub facts_of : ℕ → Facts
facts_of n = slice_index_or pin_facts n NO_FACTS

-- a stimulus may drive it
abbrev pub is_input : ℕ → Bool
is_input n = (facts_of n).input

-- a wire may drive it
abbrev pub may_be_wired : ℕ → Bool
may_be_wired n = (facts_of n).wirable

-- it is high before state 0, where nothing drives it
abbrev pub starts_high : ℕ → Bool
starts_high n = (facts_of n).starts_high

-- a trace has its edges
abbrev pub is_printed : ℕ → Bool
is_printed n = (facts_of n).printed

-- ---- pins by their names

abbrev pub hsi0 : ℕ
hsi0 = HSI0.0

abbrev pub hsi1 : ℕ
hsi1 = HSI1.0

abbrev pub hsi2 : ℕ
hsi2 = HSI2.0

abbrev pub hsi3 : ℕ
hsi3 = HSI3.0

abbrev pub t2clk : ℕ
t2clk = T2CLK.0

abbrev pub t2rst : ℕ
t2rst = T2RST.0

abbrev pub extint : ℕ
extint = EXTINT.0

abbrev pub nmi : ℕ
nmi = NMI.0

abbrev pub t2ud : ℕ
t2ud = T2UD.0

abbrev pub t2cap : ℕ
t2cap = T2CAP.0

abbrev pub p07 : ℕ
p07 = P07.0

abbrev pub txd : ℕ
txd = TXD.0

abbrev pub rxd : ℕ
rxd = RXD.0

abbrev pub pwm0 : ℕ
pwm0 = PWM0.0

abbrev pub pwm1 : ℕ
pwm1 = PWM1.0

abbrev pub pwm2 : ℕ
pwm2 = PWM2.0

abbrev pub ConstantsAreNamed : Type 0
ConstantsAreNamed =
    map pin_name (hsi0 ∷ hsi1 ∷ hsi2 ∷ hsi3 ∷ t2clk ∷ t2rst ∷ extint ∷ nmi ∷ t2ud ∷ t2cap ∷ p07 ∷ txd ∷ rxd ∷ pwm0 ∷ pwm1 ∷ pwm2 ∷ [])
    ≡ codes "HSI0" ∷ codes "HSI1" ∷ codes "HSI2" ∷ codes "HSI3" ∷ codes "T2CLK" ∷ codes "T2RST" ∷ codes "EXTINT" ∷ codes "NMI" ∷ codes "T2UD" ∷ codes "T2CAP" ∷ codes "P07" ∷ codes "TXD" ∷ codes "RXD" ∷ codes "PWM0" ∷ codes "PWM1" ∷ codes "PWM2" ∷ []
