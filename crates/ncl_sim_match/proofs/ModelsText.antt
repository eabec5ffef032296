-- The bytes of a file say one list of models, or one line tells why they say none.
use Rattle.ncl_sim_match.proofs.Terms.{AreModelsText, AreRefusedModels, BlifFault, IsRefused, List, Model, OutOfMemory, ap, arith, blif_line, inl, inr, one_refusal, read_is_not_refused, refl, sym, too_long, unread, ℕ, ◌∙◌, ◌≡◌, ◌≢◌, ◌⊎◌}

-- a fault that is not want of memory refuses the text
pub refused : (bytes : List ℕ) (fault : BlifFault) → fault ≢ OutOfMemory → (fault ≡ OutOfMemory) ⊎ IsRefused bytes fault → IsRefused bytes fault
refused bytes fault named (inl memory) = absurd (named memory)
refused bytes fault named (inr is) = is

-- bytes say one list of models
pub one_models : (bytes : List ℕ) (a b : List Model) → AreModelsText bytes a → AreModelsText bytes b → a ≡ b
one_models bytes a b is also = is.read.said ∙ sym also.read.said

-- bytes that are refused say none
pub refused_models_none : (bytes : List ℕ) {text : List ℕ} (models : List Model) → AreRefusedModels bytes text → AreModelsText bytes models → ⊥
refused_models_none bytes models (too_long more) is = let few = is.few in omega arith
refused_models_none bytes models (unread few fault broken) is = read_is_not_refused bytes models fault is.read broken

-- one line tells why
pub refused_models_once : (bytes : List ℕ) {text line : List ℕ} → AreRefusedModels bytes text → AreRefusedModels bytes line → text ≡ line
refused_models_once bytes (too_long more) (too_long more') = refl
refused_models_once bytes (too_long more) (unread few fault is) = absurd (omega arith)
refused_models_once bytes (unread few fault is) (too_long more) = absurd (omega arith)
refused_models_once bytes (unread few fault is) (unread few' fault' is') = ap blif_line (one_refusal bytes fault fault' is is')
