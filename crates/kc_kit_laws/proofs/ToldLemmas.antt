-- What `bound` prints is so of each pass.
use Rattle.std.proofs.Common.{◌≡◌, inl, inr, ℕ, Bool, true, false, List, [], ◌++◌, Option, Some, None, Result, Ok, Err, refl, sym, ◌∙◌, ap, subst, append_assoc, arith}
use Rattle.std.specs.Prelude.{codes}
use Rattle.kc_extra.specs.Further.{Further}
use Rattle.kc_hex.specs.Records.{image_of}
use Rattle.kc_debug_script.specs.declared.line_map.MapEntry.{MapEntry}
use Rattle.kc_bound.specs.declared.notes.Notes.{Notes}
use Rattle.kc_bound.specs.Bounded.{CertifiedIsBounded, IsImage}
use Rattle.kc_bound.specs.Reading.{notes_read}
use Rattle.kc_bound_requests.specs.declared.certificate.EnabledSet.{EnabledSet}
use Rattle.kc_bound_requests.specs.Entries.{LatencyIsShort}
use Rattle.kc_bound_requests.specs.Gaps.{GapsAreShort, WaitsAreShort}
use Rattle.kc_bound_requests.specs.Requests.{ClosedShowsServed}
use Rattle.kc_kit_files.specs.declared.status.Status.{Status}
use Rattle.kc_kit_files.specs.declared.status.Status.TheVariants as status
use Rattle.kc_kit_files.specs.Response.{Response, reports, Then}
use Rattle.kc_kit_words.specs.declared.command.Wanted.{Wanted}
use Rattle.kc_kit_words.specs.declared.inputs.Role.{Role}
use Rattle.kc_kit_bound.specs.Reports.{stop_text, loops_text, IsBoundText, IsReport}
use Rattle.kc_kit_bound.specs.Stops.{first_stop}
use Rattle.kc_kit_bound.specs.Texts.{states_line}
use Rattle.kc_kit_bound.specs.Told.{first_of, latency_first, IsLatencyText}
use Rattle.kc_kit_inputs.specs.Annotations.{Annotations, annotation_files, annotations_of, address_in}
use Rattle.kc_kit_inputs.specs.Hex.{by_image, hex_of}
use Rattle.kc_kit_answer.specs.Bound.{unknown_diagnostic, by_address, place_of, maybe_end, end_of, report_status, with_end, IsReported, PassesAnswer, BoundAnswer}
use Rattle.kc_kit_answer.proofs.BoundLemmas.{of-annotations}
use Rattle.kc_kit_answer.specs.Lines.{usage_line}
use Rattle.kc_kit_laws.proofs.ImageLemmas.{image_is}
use Rattle.kc_kit_laws.specs.Told.{IsShut, IsLatencySo, IsTold, IsToldBy, BoundIsTold}

module _ (X : Type 0) (bounded : CertifiedIsBounded X) (served : ClosedShowsServed X) (gaps : GapsAreShort X) (waits : WaitsAreShort X) (short : LatencyIsShort X) (f : Further X) where
  -- ---- a text

  latency-told : (image : List ℕ) (notes : Notes) (from : ℕ) (first : EnabledSet) (b : Bool) (text : List ℕ) → IsImage image → IsLatencyText b image notes from first text → IsLatencySo f image notes from first b text
  latency-told image notes from first true text is (inr none) = inr none
  latency-told image notes from first true text is (inl h) =
      let shut : IsShut f image notes from first h.most = record {
        gaps = gaps f image notes from first h.certificate h.most is h.shows;
        waits = waits f image notes from first h.certificate h.most is h.shows;
        begins = λ number i n m p e w o a r k l.
            let b = short f image notes from first h.certificate h.most is h.shows number i n m p e w o a r k l in
            (b.0, omega (arith, b.1));
      } in
      inl (h.most, shut, h.printed)
  latency-told image notes from first false text is h = h

  text-told : (image : List ℕ) (notes : Notes) (lines : List MapEntry) (from : ℕ) (wanted : Wanted) (text : List ℕ) → IsImage image → IsBoundText image notes lines from wanted text → IsTold f image notes from wanted text
  text-told image notes lines from wanted text is h =
      let stop = stop_text (first_stop image notes from h.certificate) in
      let loops = loops_text notes.loops.items h.certificate.prices.items in
      let front = λ (s : List ℕ). states_line (codes "bound") from h.bound.over ++ s ++ h.latency in
      record {
        bound = h.bound;
        bounded = bounded f image notes from h.certificate h.bound is h.shows;
        least = h.is_served.least;
        served = served f image notes from (first_of wanted) h.is_served.certificate h.is_served.least is h.is_served.closed h.is_served.is_least;
        latency = h.latency;
        is_latency = latency-told image notes from (latency_first wanted from) wanted.latency h.latency is h.is_latency;
        more = stop ++ loops ++ h.walk;
        printed =
            h.printed ∙ ap (λ t. t ++ h.walk) (append_assoc (front h.served) stop loops) ∙ append_assoc (front h.served) (stop ++ loops) h.walk
            ∙ ap (λ s. front s ++ (stop ++ loops ++ h.walk)) h.is_served.printed;
      }

  -- ---- an answer

  not-done : {A : Type 0} (given : Status) (r e : Response) → r ≡ e → e.status ≡ given → r.status ≡ status.Done → (status.Done ≡ given → ⊥) → A
  not-done given r e h is done other = absurd (other (sym done ∙ ap (λ (k : Response). k.status) h ∙ is))

  module _ (file from : List ℕ) (to : Option (List ℕ)) (inputs : List (Role × List ℕ)) (wanted : Wanted) (text : List ℕ) (more : List (List ℕ)) (r : Response) (done : r.status ≡ status.Done) where
    abbrev Told : Type 0
    Told = IsToldBy f file from to inputs wanted text more r.text

    report-told : (image : List ℕ) (a : Annotations) (first : ℕ) (last : Option ℕ) → IsImage image → hex_of file text ≡ Ok image → annotations_of (annotation_files inputs more) ≡ Ok a → place_of a from ≡ Ok first → end_of a to ≡ Ok last →
        IsReported image (with_end last a.notes) a.lines first wanted r → Told
    report-told image a first last is i n p e h = by h.is_bound h.report (ap (λ (k : Response). k.status) h.answered)
      where
        by : (b : Bool) → IsReport image h.notes a.lines first wanted b h.text → r.status ≡ report_status b → Told
        by true t s = record {
          image = image;
          is_image = i;
          said = a;
          is_said = n;
          first = first;
          is_first = p;
          last = last;
          is_last = e;
          notes = h.notes;
          contents = h.contents;
          told = subst (IsTold f image h.notes first wanted) (sym (ap (λ (k : Response). k.text) h.answered)) (text-told image h.notes a.lines first wanted h.text is t);
        }
        by false t s = absurd (let k : status.Done ≡ status.Broken = sym done ∙ s in cc)

    passes-told : (image : List ℕ) (a : Annotations) → IsImage image → hex_of file text ≡ Ok image → annotations_of (annotation_files inputs more) ≡ Ok a → PassesAnswer from to wanted image a r → Told
    passes-told image a is i n h = by-place (place_of a from) refl h
      where
        usage : (word : List ℕ) (x : Option ℕ) (e : Response) → by_address word x ≡ Err e → e.status ≡ status.Usage
        usage word None e k =
            let same : reports status.Usage usage_line (unknown_diagnostic word) ≡ e = cc k in
            sym (ap (λ (l : Response). l.status) same)
        usage word (Some at) e k = absurd (cc)

        end-usage : (t : Option (List ℕ)) (e : Response) → end_of a t ≡ Err e → e.status ≡ status.Usage
        end-usage None e k = absurd (cc)
        end-usage (Some word) e k = by (by_address word (address_in a word)) refl k
          where
            by : (x : Result ℕ Response) → by_address word (address_in a word) ≡ x → maybe_end x ≡ Err e → e.status ≡ status.Usage
            by (Ok at) g l = absurd (cc)
            by (Err o) g l = usage word (address_in a word) e (g ∙ (let m : Err o ≡ Err e = cc in m))

        by-end : (first : ℕ) → place_of a from ≡ Ok first → (x : Result (Option ℕ) Response) → end_of a to ≡ x → Then x (λ last. IsReported image (with_end last a.notes) a.lines first wanted) r → Told
        by-end first p (Ok last) e k = report-told image a first last is i n p e k
        by-end first p (Err o) e k = not-done status.Usage r o k (end-usage to o e) done (λ x. cc)

        by-place : (x : Result ℕ Response) → place_of a from ≡ x → Then x (λ first. Then (end_of a to) (λ last. IsReported image (with_end last a.notes) a.lines first wanted)) r → Told
        by-place (Ok first) p k = by-end first p (end_of a to) refl k
        by-place (Err o) p k = not-done status.Usage r o k (usage from (address_in a from) o p) done (λ x. cc)

    answer-told : BoundAnswer file from to inputs wanted text more r → Told
    answer-told h = by-image (image_of text) refl h
      where
        by-annotations : (image : List ℕ) → IsImage image → hex_of file text ≡ Ok image → (x : Result Annotations Response) → annotations_of (annotation_files inputs more) ≡ x → Then x (PassesAnswer from to wanted image) r → Told
        by-annotations image is i (Ok a) n k = passes-told image a is i n k
        by-annotations image is i (Err o) n k = not-done status.Input r o k (of-annotations (annotation_files inputs more) o n).1 done (λ x. cc)

        by-image : (x : Result (List ℕ) (ℕ × ℕ)) → image_of text ≡ x → Then (by_image file text x) (λ image. Then (annotations_of (annotation_files inputs more)) (PassesAnswer from to wanted image)) r → Told
        by-image (Ok image) i k = by-annotations image (image_is text image i) (ap (by_image file text) i) (annotations_of (annotation_files inputs more)) refl k
        by-image (Err fault) i k = absurd (let s : status.Done ≡ status.Input = sym done ∙ ap (λ (l : Response). l.status) k in cc)

pub bound_is_told : {X : Type 0} → CertifiedIsBounded X → ClosedShowsServed X → GapsAreShort X → WaitsAreShort X → LatencyIsShort X → BoundIsTold X
bound_is_told {X} bounded served gaps waits short f file from to inputs wanted text more r h done = answer-told X bounded served gaps waits short f file from to inputs wanted text more r done h
