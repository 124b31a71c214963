-- The words of the productions that are read and ignored, and those that are not supported.
use Rattle.std.specs.Prelude.{ℕ, List, [], ◌∷◌, ◌++◌, codes}

-- Flags of instructions (Language Reference, "Poison Values" and the instructions that have them).
abbrev pub flag_words : List (List ℕ)
flag_words = codes "nsw" ∷ codes "nuw" ∷ codes "exact" ∷ codes "inbounds" ∷ codes "nusw" ∷ codes "nneg" ∷ codes "disjoint" ∷ codes "samesign" ∷ []

-- Attributes that are one word (Language Reference, "Parameter Attributes", "Function Attributes", "Calling Conventions").
abbrev pub attribute_words : List (List ℕ)
attribute_words =
    codes "noundef" ∷ codes "nonnull" ∷ codes "zeroext" ∷ codes "signext" ∷ codes "inreg" ∷ codes "noalias" ∷ codes "nocapture" ∷ codes "readonly"
    ∷ codes "readnone" ∷ codes "writeonly" ∷ codes "returned" ∷ codes "immarg" ∷ codes "nofree" ∷ codes "noreturn" ∷ codes "nounwind" ∷ codes "willreturn"
    ∷ codes "unnamed_addr" ∷ codes "local_unnamed_addr" ∷ codes "fastcc" ∷ codes "ccc" ∷ codes "allocptr" ∷ codes "allocalign" ∷ []

-- Attributes with parentheses and the tokens in them, to the first `)`.
abbrev pub attribute_heads : List (List ℕ)
attribute_heads = codes "dereferenceable" ∷ codes "dereferenceable_or_null" ∷ codes "captures" ∷ codes "range" ∷ codes "memory" ∷ []

-- What may stand in front of a global or a function beside attributes (Language Reference, "Linkage Types", "Visibility Styles",
-- "Runtime Preemption Specifiers").
abbrev pub linkage_words : List (List ℕ)
linkage_words =
    codes "private" ∷ codes "internal" ∷ codes "common" ∷ codes "weak" ∷ codes "linkonce" ∷ codes "linkonce_odr" ∷ codes "weak_odr" ∷ codes "dso_local"
    ∷ codes "hidden" ∷ codes "protected" ∷ []

-- ---- unsupported wherever they are refused

abbrev pub unsupported_types : List (List ℕ)
unsupported_types =
    codes "half" ∷ codes "bfloat" ∷ codes "float" ∷ codes "double" ∷ codes "fp128" ∷ codes "x86_fp80" ∷ codes "ppc_fp128" ∷ codes "x86_mmx" ∷ codes "x86_amx"
    ∷ codes "token" ∷ codes "metadata" ∷ codes "opaque" ∷ codes "addrspace" ∷ []

abbrev pub unsupported_linkage : List (List ℕ)
unsupported_linkage =
    codes "thread_local" ∷ codes "external" ∷ codes "extern_weak" ∷ codes "available_externally" ∷ codes "appending" ∷ codes "dllimport" ∷ codes "dllexport"
    ∷ codes "ifunc" ∷ codes "alias" ∷ codes "asm" ∷ codes "module" ∷ codes "comdat" ∷ []

abbrev pub unsupported_attributes : List (List ℕ)
unsupported_attributes =
    codes "byval" ∷ codes "byref" ∷ codes "sret" ∷ codes "inalloca" ∷ codes "preallocated" ∷ codes "nest" ∷ codes "swiftself" ∷ codes "swifterror" ∷ codes "musttail" ∷ []

abbrev pub unsupported_instructions : List (List ℕ)
unsupported_instructions =
    codes "atomic" ∷ codes "cmpxchg" ∷ codes "atomicrmw" ∷ codes "fence" ∷ codes "va_arg" ∷ codes "freeze" ∷ codes "invoke" ∷ codes "callbr" ∷ codes "resume"
    ∷ codes "landingpad" ∷ codes "catchswitch" ∷ codes "catchpad" ∷ codes "cleanuppad" ∷ codes "catchret" ∷ codes "cleanupret" ∷ codes "indirectbr"
    ∷ codes "fneg" ∷ codes "fadd" ∷ codes "fsub" ∷ codes "fmul" ∷ codes "fdiv" ∷ codes "frem" ∷ codes "fcmp" ∷ codes "fptrunc" ∷ codes "fpext"
    ∷ codes "fptoui" ∷ codes "fptosi" ∷ codes "uitofp" ∷ codes "sitofp" ∷ codes "ptrtoint" ∷ codes "ptrtoaddr" ∷ codes "inttoptr" ∷ codes "bitcast"
    ∷ codes "addrspacecast" ∷ codes "extractelement" ∷ codes "insertelement" ∷ codes "shufflevector" ∷ codes "extractvalue" ∷ codes "insertvalue" ∷ []

abbrev pub unsupported_constants : List (List ℕ)
unsupported_constants = codes "blockaddress" ∷ codes "dso_local_equivalent" ∷ codes "no_cfi" ∷ codes "splat" ∷ codes "inrange" ∷ []

abbrev pub unsupported_words : List (List ℕ)
unsupported_words = unsupported_types ++ (unsupported_linkage ++ (unsupported_attributes ++ (unsupported_instructions ++ unsupported_constants)))
