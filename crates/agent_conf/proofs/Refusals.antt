-- How a fault of one part is the fault of the whole.
use Rattle.std.proofs.Common.{◌≡◌, ◌∙◌, ◌⊎◌, inl, inr, ℕ, List, [], ◌∷◌, ◌++◌, map, length, nat_eq, true, false, refl, sym, ap, arith, eqb→eq, Option, Some, None, Result, Ok, Err}
use Rattle.std.proofs.lemmas.Bool.{false≢true}
use Rattle.toml.specs.Data.{Members}
use Rattle.agent_conf.specs.declared.conf.AppConf.{AppConf}
use Rattle.agent_conf.specs.declared.conf.Conf.{Conf}
use Rattle.agent_conf.specs.declared.fault.ConfFault.{ConfFault}
use Rattle.agent_conf.specs.declared.fault.ConfFault.TheVariants as faults
use Rattle.agent_conf.specs.Applications.{application_faults, no_application}
use Rattle.agent_conf.specs.Configuration.{conf_of}
use Rattle.agent_conf.specs.Document.{document}
use Rattle.agent_conf.specs.Faults.{bad_values, faults_of, missing, of_document, reading, unknown, unless_faulty}
use Rattle.agent_conf.specs.Opening.{IsDocument}
use Rattle.agent_conf.specs.Reading.{first, Gives, IsFirst, Reads}
use Rattle.agent_conf.proofs.Firsts.{first_before}

pub map_first : {A B : Type 0} (f : A → B) (xs : List A) (a : A) → first xs ≡ Some a → first (map f xs) ≡ Some (f a)
map_first f [] a h = cc
map_first f (x ∷ xs) a h = cc

pub no_apps : (apps : List AppConf) → nat_eq (length apps) 0 ≡ true → no_application apps ≡ faults.NoApp ∷ []
no_apps [] h = refl
no_apps (app ∷ apps) h = absurd (omega (arith, eqb→eq (length (app ∷ apps)) 0 (rw h tt)))

pub some_apps : (apps : List AppConf) → nat_eq (length apps) 0 ≡ false → no_application apps ≡ []
some_apps [] h = absurd (false≢true (sym h))
some_apps (app ∷ apps) h = refl

-- a key that is bad is the first of all that are
pub refuses : {A B : Type 0} (fault : ConfFault) (read : Option A) (key : List ℕ) (bad : List (List ℕ)) (wanted : B) →
    Reads {A = A} (Err fault) read key → (read ≡ None → first bad ≡ Some key) → Gives {A = B} (Err fault) bad wanted
refuses (faults.BadValue word) read key bad wanted r h = h r.0 ∙ ap (λ (k : List ℕ). Some k) (sym r.1)
refuses faults.NoMemory read key bad wanted r h = tt
refuses faults.Syntax read key bad wanted r h = r
refuses (faults.UnknownKey k) read key bad wanted r h = r
refuses (faults.MissingKey k) read key bad wanted r h = r
refuses faults.NoApp read key bad wanted r h = r
refuses (faults.DoubleApp k) read key bad wanted r h = r
refuses (faults.UnknownDefault k) read key bad wanted r h = r

-- the first bad one of a part is the first of all
pub passes : {A B : Type 0} (fault : ConfFault) (some all : List (List ℕ)) (value : A) (wanted : B) →
    Gives (Err fault) some value → ((key : List ℕ) → first some ≡ Some key → first all ≡ Some key) → Gives (Err fault) all wanted
passes (faults.BadValue word) some all value wanted r h = h word r
passes faults.NoMemory some all value wanted r h = tt
passes faults.Syntax some all value wanted r h = r
passes (faults.UnknownKey k) some all value wanted r h = r
passes (faults.MissingKey k) some all value wanted r h = r
passes faults.NoApp some all value wanted r h = r
passes (faults.DoubleApp k) some all value wanted r h = r
passes (faults.UnknownDefault k) some all value wanted r h = r

-- the answer of reading a text, but for want of memory
abbrev pub Answers : List ℕ → Result Conf ConfFault → Type 0
Answers text answer = (answer ≡ reading text) ⊎ (answer ≡ Err faults.NoMemory)

faulty : (xs ys : List ConfFault) (fault : ConfFault) (conf : Conf) → first xs ≡ Some fault → unless_faulty (xs ++ ys) conf ≡ Err fault
faulty [] ys fault conf h = cc
faulty (x ∷ xs) ys fault conf h = cc

faulty_alone : (xs : List ConfFault) (fault : ConfFault) (conf : Conf) → first xs ≡ Some fault → unless_faulty xs conf ≡ Err fault
faulty_alone [] fault conf h = cc
faulty_alone (x ∷ xs) fault conf h = cc

abbrev pub key_faults : Members → List ConfFault
key_faults top = map (λ key. faults.UnknownKey key) (unknown top) ++ map (λ key. faults.MissingKey key) (missing top)

abbrev pub value_faults : List (List ℕ) → List ConfFault
value_faults bad = map (λ key. faults.BadValue key) bad

reads : (text : List ℕ) (top : Members) → document text ≡ Some top → reading text ≡ unless_faulty (key_faults top ++ value_faults (bad_values top) ++ application_faults (conf_of top)) (conf_of top)
unfolding reading faults_of
reads text top is = ap of_document is

pub no_document : (fault : ConfFault) (text : List ℕ) → IsDocument (Err fault) (document text) → Answers text (Err fault)
unfolding reading
no_document faults.Syntax text h = inl (sym (ap of_document h))
no_document faults.NoMemory text h = inr refl
no_document (faults.UnknownKey k) text h = absurd h
no_document (faults.MissingKey k) text h = absurd h
no_document (faults.BadValue k) text h = absurd h
no_document faults.NoApp text h = absurd h
no_document (faults.DoubleApp k) text h = absurd h
no_document (faults.UnknownDefault k) text h = absurd h

first_or_memory : (fault : ConfFault) (found : List ConfFault) → IsFirst (Err fault) found → (first found ≡ Some fault) ⊎ (fault ≡ faults.NoMemory)
first_or_memory faults.Syntax found h = inl h
first_or_memory (faults.UnknownKey k) found h = inl h
first_or_memory (faults.MissingKey k) found h = inl h
first_or_memory (faults.BadValue k) found h = inl h
first_or_memory faults.NoApp found h = inl h
first_or_memory (faults.DoubleApp k) found h = inl h
first_or_memory (faults.UnknownDefault k) found h = inl h
first_or_memory faults.NoMemory found h = inr refl

bad_or_memory : {A : Type 0} (fault : ConfFault) (bad : List (List ℕ)) (value : A) → Gives (Err fault) bad value → (first (value_faults bad) ≡ Some fault) ⊎ (fault ≡ faults.NoMemory)
bad_or_memory (faults.BadValue k) bad value h = inl (map_first (λ key. faults.BadValue key) bad k h)
bad_or_memory faults.NoMemory bad value h = inr refl
bad_or_memory faults.Syntax bad value h = absurd h
bad_or_memory (faults.UnknownKey k) bad value h = absurd h
bad_or_memory (faults.MissingKey k) bad value h = absurd h
bad_or_memory faults.NoApp bad value h = absurd h
bad_or_memory (faults.DoubleApp k) bad value h = absurd h
bad_or_memory (faults.UnknownDefault k) bad value h = absurd h

told : (fault : ConfFault) (text : List ℕ) (found : List ConfFault) → (first found ≡ Some fault) ⊎ (fault ≡ faults.NoMemory) →
    (first found ≡ Some fault → Err fault ≡ reading text) → Answers text (Err fault)
told fault text found (inl is) h = inl (h is)
told fault text found (inr none) h = inr (ap (λ (f : ConfFault). Err f) none)

pub bad_key : (fault : ConfFault) (text : List ℕ) (top : Members) → document text ≡ Some top → IsFirst (Err fault) (key_faults top) → Answers text (Err fault)
bad_key fault text top is h = told fault text (key_faults top) (first_or_memory fault (key_faults top) h) (λ found.
    sym (reads text top is ∙ faulty (key_faults top ++ value_faults (bad_values top)) (application_faults (conf_of top)) fault (conf_of top) (first_before (key_faults top) (value_faults (bad_values top)) fault found)))

pub bad_value : (fault : ConfFault) (text : List ℕ) (top : Members) → document text ≡ Some top → key_faults top ≡ [] → Gives (Err fault) (bad_values top) (conf_of top) → Answers text (Err fault)
bad_value fault text top is known h = told fault text (value_faults (bad_values top)) (bad_or_memory fault (bad_values top) (conf_of top) h) (λ found.
    sym (reads text top is ∙ ap (λ (l : List ConfFault). unless_faulty (l ++ value_faults (bad_values top) ++ application_faults (conf_of top)) (conf_of top)) known
    ∙ faulty (value_faults (bad_values top)) (application_faults (conf_of top)) fault (conf_of top) found))

left : (text : List ℕ) (top : Members) → document text ≡ Some top → key_faults top ≡ [] → bad_values top ≡ [] → reading text ≡ unless_faulty (application_faults (conf_of top)) (conf_of top)
left text top is known good =
    reads text top is ∙ ap (λ (l : List ConfFault). unless_faulty (l ++ value_faults (bad_values top) ++ application_faults (conf_of top)) (conf_of top)) known
    ∙ ap (λ (l : List (List ℕ)). unless_faulty (value_faults l ++ application_faults (conf_of top)) (conf_of top)) good

pub bad_application : (fault : ConfFault) (text : List ℕ) (top : Members) → document text ≡ Some top → key_faults top ≡ [] → bad_values top ≡ [] → IsFirst (Err fault) (application_faults (conf_of top)) → Answers text (Err fault)
bad_application fault text top is known good h = told fault text (application_faults (conf_of top)) (first_or_memory fault (application_faults (conf_of top)) h) (λ found.
    sym (left text top is known good ∙ faulty_alone (application_faults (conf_of top)) fault (conf_of top) found))

pub no_fault : (text : List ℕ) (top : Members) (conf : Conf) → document text ≡ Some top → key_faults top ≡ [] → bad_values top ≡ [] → conf ≡ conf_of top → application_faults conf ≡ [] → Answers text (Ok conf)
no_fault text top conf is known good same none =
    inl (ap (λ (c : Conf). Ok c) same ∙ sym (left text top is known good ∙ ap (λ (l : List ConfFault). unless_faulty l (conf_of top)) (ap application_faults (sym same) ∙ none)))
