pub mod ConversionBytes
