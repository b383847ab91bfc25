pub mod ConversionRecord
