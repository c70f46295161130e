-- Laws of sessions: local to global, bounds found anew, certificates.
use Rattle.std.specs.Prelude.{◌≡◌, ℕ, ◌^◌, ◌<◌, pos, ◌*ℤ◌, ◌≤ℤ◌, List, [], ◌∷◌, length, Some, None, Ok, ◌↔◌}
use Rattle.lab_defs_text.specs.Games.{GameModel}
use Rattle.lab_defs_game.specs.Forms.{game_actions}
use Rattle.lab_defs_game.specs.Seats.{IsSeat, grid_of}
use Rattle.lab_defs_value.specs.Replies.{Reply, IsReply, IsTable, strategy_of, reply_sets, reply_factors, earned}
use Rattle.lab_defs_value.specs.BestValues.{best_response_value}
use Rattle.lab_defs_value.specs.Bounds.{at, Holds, Tight, tight_bounds, HasBounds}
use Rattle.lab_defs_value.specs.Settling.{settled_bounds}
use Rattle.lab_defs_report.specs.States.{State, step_of, Profile, Proposal, table_of, bounds_of, played_by, proposed_table, inside_count, node_list}
use Rattle.lab_defs_value.specs.Tables.{weight_count}
use Rattle.lab_defs_report.specs.Commands.{Command, cert}
use Rattle.lab_defs_report.specs.CertificateTexts.{Certificate, certificate_text}
use Rattle.lab_defs_report.specs.Certificates.{IsCertified, certified, first_broken}
use Rattle.lab_defs_report.specs.Headline.{PassesAt, Leads, start}
use Rattle.lab_defs_game.specs.Accepted.{IsAccepted}

-- a proposal that fits: for a seat that decides in the subgame, with as many weights as it has there, where its table has all its own
pub record IsFitting (g : GameModel) (p : Profile) (q : Proposal) : Type 0 where
  pub seat : IsSeat q.seat
  pub table : length (table_of p q.seat) ≡ weight_count g q.seat
  pub weights : length q.weights ≡ inside_count g q
  pub some : 0 < inside_count g q

-- where bounds hold, a proposal that passes at its node, by whichever rule, leaves the most that replies earn against the whole strategy within the bound at the first set; where they are tight that is no more than before
abbrev pub LocalToGlobalLaw : Type 0
LocalToGlobalLaw = (g : GameModel) → IsAccepted g → (p : Profile) (q : Proposal) → IsFitting g p q → PassesAt g p q (proposed_table g p q) →
    (Holds (played_by g p q.seat) (at (bounds_of p q.seat)) → best_response_value (strategy_of g q.seat (proposed_table g p q)) 0 ≤ℤ at (bounds_of p q.seat) 0)
    × (Tight (played_by g p q.seat) (at (bounds_of p q.seat)) → best_response_value (strategy_of g q.seat (proposed_table g p q)) 0 ≤ℤ best_response_value (played_by g p q.seat) 0)

-- tight bounds, settled for the subgame of a proposal in place, are the tight bounds of the new table
abbrev pub MendedLaw : Type 0
MendedLaw = (g : GameModel) → IsAccepted g → (p : Profile) (q : Proposal) → IsFitting g p q → bounds_of p q.seat ≡ tight_bounds g q.seat (table_of p q.seat)
    → settled_bounds g q.seat (node_list g q) (proposed_table g p q) (bounds_of p q.seat) ≡ tight_bounds g q.seat (proposed_table g p q)

-- what a session keeps of a seat are bounds that may be kept, so what is said of the size of numbers is said of its tables and bounds
abbrev pub SessionBoundsLaw : Type 0
SessionBoundsLaw = (g : GameModel) → IsAccepted g → (cs : List Command) (s : State) (p : Profile) → Leads (start g) cs s → s.profile ≡ Some p
    → (seat : ℕ) → IsSeat seat → HasBounds g seat (table_of p seat) (bounds_of p seat)

-- by a certificate no reply earns more than its bound at the first set
abbrev pub CertifiedLaw : Type 0
CertifiedLaw = (g : GameModel) → IsAccepted g → (c : Certificate) → IsSeat c.seat → IsCertified g c
    → (r : Reply) → IsReply (reply_sets (certified g c)) r → earned (certified g c) r 0 ≤ℤ (pos (r.all ^ reply_factors (certified g c)) *ℤ at c.bounds 0)

-- a table with its tight bounds is one
abbrev pub CertificateLaw : Type 0
CertificateLaw = (g : GameModel) → IsAccepted g → (seat : ℕ) → IsSeat seat → (table : List ℕ) → length table ≡ weight_count g seat → IsTable (game_actions g seat) (grid_of g seat) table
    → IsCertified g (record { seat = seat; weights = table; bounds = tight_bounds g seat table })

-- no inequality is found to fail exactly where all hold
abbrev pub BrokenLaw : Type 0
BrokenLaw = (g : GameModel) (c : Certificate) → (first_broken g c ≡ None) ↔ Holds (certified g c) (at c.bounds)

-- from the blueprint on a session answers to `cert` with a certificate of the seat's table and bounds as they are, and it is one
abbrev pub SessionCertificateLaw : Type 0
SessionCertificateLaw = (g : GameModel) → IsAccepted g → (cs : List Command) (s : State) (p : Profile) → Leads (start g) cs s → s.profile ≡ Some p → (seat : ℕ) → IsSeat seat →
    let c : Certificate = record { seat = seat; weights = table_of p seat; bounds = bounds_of p seat } in
    IsCertified g c × (step_of s (cert seat) ≡ Ok (s, certificate_text c ∷ []))
